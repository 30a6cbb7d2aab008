-- Whether a store is there, and what a crash leaves where one is made.
use Rattle.std.proofs.Common.{◌≡◌, inl, inr, ℕ, ◌<◌, List, [], ◌∷◌, ◌++◌, length}
use Rattle.std.proofs.Common.{take, drop, Option, Some, refl, sym, ◌∙◌, ap, subst, arith}
use Rattle.std.proofs.Common.{append_assoc}
use Rattle.std.proofs.Common.{Bool, true, false, nat_lt, Result, Ok, Err}
use Rattle.std.specs.Prelude.{IfOk, IfErr, OnOk}
use Rattle.std.proofs.lemmas.Bool.Decides.{nat_tests}
use Rattle.std.proofs.lemmas.List.{take-append-drop}
use Rattle.fm_outer.specs.Moments.{LeavesOnly, OnlyRead}
use Rattle.fm_outer.specs.declared.disk.Disk.{Ghosts}
use Rattle.fm_outer.proofs.Moments.{OnlyNow, leaves-weaker, leaves-then, leaves-still}
use Rattle.fm_journal.specs.Crash.{IsEmptyOrNone, IsFrontOrEmpty, IsOldOrNew}
use Rattle.fm_journal.specs.Format.{IsJournal, header, records}
use Rattle.fm_journal.specs.JournalOf.{JournalOf}
use Rattle.fm_journal.specs.Keeps.{Keeps}
use Rattle.fm_journal.proofs.Uniqueness.{same_journal_list}
use Rattle.fm_journal.proofs.Opened.{two_tellings}
use Rattle.fm_slots.specs.Format.{IsClosedSlot}
use Rattle.fm_saved.specs.Confs.{conf_bytes}
use Rattle.fm_saved.specs.declared.conf.Conf.{Conf}
use Rattle.fm_logs.specs.Contents.{Contents, AreTold, AreImages}
use Rattle.fm_logs.specs.declared.disks.Disks.{Disks}
use Rattle.fm_logs.specs.declared.disks.DiskName.TheVariants.{Conf as ConfDisk, ErrA, SlotA}
use Rattle.fm_logs.specs.declared.disks.DiskName.TheVariants.{SlotB, Flt}
use Rattle.fm_logs.specs.declared.disks.DiskName.TheVariants.{ErrB}
use Rattle.fm_logs.specs.declared.fault.StoreFault.{StoreFault}
use Rattle.fm_logs.specs.declared.fault.StoreFault.TheVariants.{Disk as DiskFailed}
use Rattle.fm_outer.specs.Failures.{Rose}
use Rattle.fm_init.specs.declared.refused.StoreRefused.{StoreRefused}
use Rattle.fm_init.specs.Making.{HasStore, IsNoneOrConf, MakesStore, AreReady, IsNewStore}
use Rattle.fm_init.specs.Making.{OnlyLooked, RoseOnOne, InitRefused, InitDoes, disks_back}

-- a journal with a payload is a store
store_there : (bytes : List ℕ) (first : ℕ) (payloads : List (List ℕ)) → 0 < length payloads
    → IsJournal bytes first payloads → HasStore bytes
store_there bytes first [] some is = absurd (omega (arith, some))
store_there bytes first (payload ∷ payloads) some is = (first, payload, payloads, is)

no_payloads : (payloads : List (List ℕ)) → length payloads ≡ 0 → payloads ≡ []
no_payloads [] none = refl
no_payloads (payload ∷ payloads) none = absurd (omega (arith, none))

module _ {D : Type 0} (g : Ghosts D) (journal : JournalOf D) (seen : Option (List ℕ))
    (same : g.seen journal.disk ≡ seen)
    (found : (bytes : List ℕ) → seen ≡ Some bytes
    → (payloads : List (List ℕ)) × Keeps g journal payloads) where
  pub there_where_some : (n : ℕ) → n ≡ journal.count → nat_lt 0 n ≡ true → (bytes : List ℕ)
      → seen ≡ Some bytes → HasStore bytes
  there_where_some n is some bytes told =
      let positive : 0 < n = grind (arith, nat_tests) in
      let keeps = (found bytes told).1 in
      subst HasStore
      (two_tellings seen keeps.told.0 bytes (sym same ∙ keeps.told.1) told)
      (store_there keeps.told.0 journal.first (found bytes told).0
      (omega (arith, positive, is, keeps.counted)) keeps.told.2)

  pub none_where_none : (n : ℕ) → n ≡ journal.count → nat_lt 0 n ≡ false → (bytes : List ℕ)
      → seen ≡ Some bytes
      → IsEmptyOrNone bytes
  none_where_none n counts none bytes told first payloads is =
      let zero : n ≡ 0 = grind (arith, nat_tests) in
      let keeps = (found bytes told).1 in
      let one = two_tellings seen keeps.told.0 bytes (sym same ∙ keeps.told.1) told in
      let lists = same_journal_list bytes journal.first first (found bytes told).0 payloads
      (subst (λ (l : List ℕ). IsJournal l journal.first (found bytes told).0) one keeps.told.2)
      is in
      sym lists.1 ∙ no_payloads (found bytes told).0 (omega (arith, keeps.counted, counts, zero))

-- what holds of an answer that is Ok
on_ok : {T E P : Type 0} (r : Result T E) (t : T) → r ≡ Ok t → OnOk r P → P
on_ok {T = T} {E = E} {P = P} r t is ok = subst (λ (x : Result T E). OnOk x P) is ok

if_ok : {T E : Type 0} (P : T → Type 0) (r : Result T E) (t : T) → r ≡ Ok t → IfOk r P → P t
if_ok {T = T} {E = E} P r t is ok = subst (λ (x : Result T E). IfOk x P) is ok

-- a disk that was found to hold no store
pub found_none : {D E : Type 0} (g : Ghosts D) (old mid : D) (found : Result Bool E) (there : Bool)
    → found ≡ Ok there → there ≡ false
    → IfOk found (λ is_there. is_there ≡ false → (bytes : List ℕ) → g.seen mid ≡ Some bytes
    → IsEmptyOrNone bytes)
    → g.seen mid ≡ g.seen old → (bytes : List ℕ) → g.seen old ≡ Some bytes → IsEmptyOrNone bytes
found_none g old mid found there is none told same bytes seen =
    if_ok (λ is_there. is_there ≡ false → (xs : List ℕ) → g.seen mid ≡ Some xs → IsEmptyOrNone xs)
    found there is told none bytes (same ∙ seen)

-- the front of what is no store is none
front_none : (whole bytes : List ℕ) → take (length bytes) whole ≡ bytes → IsEmptyOrNone whole
    → IsEmptyOrNone bytes
front_none whole bytes front none first payloads is =
    none first payloads (record {
      gate = is.gate;
      rest = is.rest ++ drop (length bytes) whole;
      closed = is.closed;
      begins = record {
        bytes_are = sym (take-append-drop (length bytes) whole)
            ∙ ap (λ (l : List ℕ). l ++ drop (length bytes) whole) (front ∙ is.begins.bytes_are)
            ∙ append_assoc (header first) (records payloads ++ is.gate ∷ is.rest)
            (drop (length bytes) whole)
            ∙ ap (λ (l : List ℕ). header first ++ l)
            (append_assoc (records payloads) (is.gate ∷ is.rest) (drop (length bytes) whole));
        limits = is.begins.limits;
      };
    })

-- a crash within the making of the configurations' disk leaves no store, as long as there was none
pub none_left : (images : List ℕ → Type 0) (payload c : List ℕ)
    → ((d : List ℕ) → images d → IsEmptyOrNone d) → IsFrontOrEmpty images c
    → IsNoneOrConf payload c
none_left images payload c none (inl front) =
    inl (front_none front.0 c front.2 (none front.0 front.1))
none_left images payload c none (inr empty) = inl empty

-- and one within the append leaves none, or the configuration
pub conf_left : (payload c : List ℕ) → IsOldOrNew 0 [] payload c → IsNoneOrConf payload c
conf_left payload c (inl old) =
    inl (λ first payloads is. sym (same_journal_list c 0 first [] payloads old is).1)
conf_left payload c (inr new) = inr new

-- a making of the configurations' disk, and then the append of the configuration
pub written_leaves : {D : Type 0} (g : Ghosts D) (old mid new : D) (payload : List ℕ)
    → ((c : List ℕ) → g.images old c → IsEmptyOrNone c)
    → LeavesOnly g old mid (IsFrontOrEmpty (g.images old))
    → LeavesOnly g mid new (IsOldOrNew 0 [] payload)
    → LeavesOnly g old new (IsNoneOrConf payload)
written_leaves g old mid new payload none first second =
    leaves-then g old mid new (IsNoneOrConf payload)
    (leaves-weaker g old mid (IsFrontOrEmpty (g.images old)) (IsNoneOrConf payload) first
    (λ c either. none_left (g.images old) payload c none either))
    (leaves-weaker g mid new (IsOldOrNew 0 [] payload) (IsNoneOrConf payload) second
    (conf_left payload))

-- and one that stopped in the making
pub stopped_leaves : {D : Type 0} (g : Ghosts D) (old new : D) (payload : List ℕ)
    → ((c : List ℕ) → g.images old c → IsEmptyOrNone c)
    → LeavesOnly g old new (IsFrontOrEmpty (g.images old))
    → LeavesOnly g old new (IsNoneOrConf payload)
stopped_leaves g old new payload none first =
    leaves-weaker g old new (IsFrontOrEmpty (g.images old)) (IsNoneOrConf payload) first
    (λ c either. none_left (g.images old) payload c none either)

-- the four others are ready, once each was made
pub others_ready : {D T E : Type 0} (g : Ghosts D) (old new : Disks D) (one two : Result T E)
    (t u : T) → one ≡ Ok t → two ≡ Ok u
    → OnOk one ((bytes c : List ℕ) → g.seen old.err_a ≡ Some bytes → g.images new.err_a c
    → IsJournal c 0 [])
    → OnOk two ((bytes c : List ℕ) → g.seen old.flt ≡ Some bytes → g.images new.flt c
    → IsJournal c 0 [])
    → ((c : List ℕ) → g.images new.slot_a c → IsClosedSlot c)
    → ((c : List ℕ) → g.images new.slot_b c → IsClosedSlot c)
    → (c : Contents) → AreTold g old c → AreReady g new
others_ready g old new one two t u is_one is_two entries records first second c told = record {
  no_entries = λ image left. on_ok one t is_one entries c.err_a image (told ErrA) left;
  no_first_slot = first;
  no_second_slot = second;
  no_records = λ image left. on_ok two u is_two records c.flt image (told Flt) left;
}

module _ {D : Type 0} (g : Ghosts D) (only_now : OnlyNow g) where
  -- the configurations' disk was only read
  pub makes_unwritten : (old new : Disks D) (read : D) (conf : Conf) → OnlyRead g old.conf read
      → ((c : List ℕ) → g.images read c → IsEmptyOrNone c) → new.conf ≡ read
      → new.err_b ≡ old.err_b → MakesStore g old new conf
  makes_unwritten old new read conf still none same second = record {
    read = read;
    still = still;
    none = none;
    any_moment = λ c told.
        subst (λ (d : D). LeavesOnly g read d (IsNoneOrConf (conf_bytes conf))) (sym same)
        (leaves-still g only_now read (IsNoneOrConf (conf_bytes conf))
        (λ image left. inl (none image left)));
    in_order = inl same;
    second_same = second;
  }

  -- it was written, once the others were ready
  pub makes_written : (old mid new : Disks D) (payload : List ℕ) (conf : Conf)
      → OnlyRead g old.conf mid.conf → ((c : List ℕ) → g.images mid.conf c → IsEmptyOrNone c)
      → payload ≡ conf_bytes conf
      → ((bytes : List ℕ) → g.seen mid.conf ≡ Some bytes
      → LeavesOnly g mid.conf new.conf (IsNoneOrConf payload))
      → ((c : Contents) → AreTold g old c → AreReady g mid)
      → new ≡ record mid { conf = new.conf } → mid.err_b ≡ old.err_b → MakesStore g old new conf
  makes_written old mid new payload conf still none is leaves ready others second = record {
    read = mid.conf;
    still = still;
    none = none;
    any_moment = λ c told.
        subst (λ (p : List ℕ). LeavesOnly g mid.conf new.conf (IsNoneOrConf p)) is
        (leaves c.conf (still.same ∙ told ConfDisk));
    in_order = inr (λ c told. subst (AreReady g) (sym others) (ready_still mid new.conf
        (ready c told)));
    second_same = ap (λ (d : Disks D). d.err_b) others ∙ second;
  }
    where
      ready_still : (mid : Disks D) (conf : D) → AreReady g mid
          → AreReady g (record mid { conf = conf })
      ready_still mid conf ready = record {
        no_entries = ready.no_entries;
        no_first_slot = ready.no_first_slot;
        no_second_slot = ready.no_second_slot;
        no_records = ready.no_records;
      }

  -- the contents of the disks are those of a new store
  pub is_new_store : (mid new : Disks D) (payload : List ℕ) (conf : Conf) (told c : Contents)
      → payload ≡ conf_bytes conf
      → ((bytes image : List ℕ) → g.seen mid.conf ≡ Some bytes → g.images new.conf image
      → IsJournal image 0 (payload ∷ []))
      → g.seen mid.conf ≡ Some told.conf → AreReady g mid
      → new ≡ record mid { conf = new.conf } → AreImages g new c → IsNewStore c conf
  is_new_store mid new payload conf told c is made seen ready others left =
      let there = subst (λ (d : Disks D). AreImages g d c) others left in record {
        conf_is = subst (λ (p : List ℕ). IsJournal c.conf 0 (p ∷ [])) is
            (made told.conf c.conf seen (left ConfDisk));
        no_entries = ready.no_entries c.err_a (there ErrA);
        no_first_slot = ready.no_first_slot c.slot_a (there SlotA);
        no_second_slot = ready.no_second_slot c.slot_b (there SlotB);
        no_records = ready.no_records c.flt (there Flt);
      }

  -- what is told is told after the look too
  told_looked : (old : Disks D) (read : D) (c : Contents) → g.seen read ≡ g.seen old.conf
      → AreTold g old c → AreTold g (record old { conf = read }) c
  told_looked old read c same told ConfDisk = same ∙ told ConfDisk
  told_looked old read c same told ErrA = told ErrA
  told_looked old read c same told ErrB = told ErrB
  told_looked old read c same told SlotA = told SlotA
  told_looked old read c same told SlotB = told SlotB
  told_looked old read c same told Flt = told Flt

  -- and a count that rose since then rose since before
  rose_looked : (old : Disks D) (read : D) (new : Disks D) → g.failures read ≡ g.failures old.conf
      → RoseOnOne g (record old { conf = read }) new → RoseOnOne g old new
  rose_looked old read new kept (inl rose) =
      inl (subst (λ (n : ℕ). Rose n (g.failures new.conf)) kept rose)
  rose_looked old read new kept (inr rose) = inr rose

  -- the others were not made
  pub others_stop : (old mid new : Disks D) (conf : Conf) (fault : StoreFault)
      → OnlyLooked g old mid → ((c : List ℕ) → g.images mid.conf c → IsEmptyOrNone c)
      → g.failures mid.conf ≡ g.failures old.conf → new.conf ≡ mid.conf → new.err_b ≡ mid.err_b
      → (fault ≡ DiskFailed) × RoseOnOne g mid new → InitRefused g old new conf fault
  others_stop old mid new conf fault looked none kept same second failed =
      subst (λ (f : StoreFault). InitRefused g old new conf f) (sym failed.0) (
        rose_looked old mid.conf new kept
            (subst (λ (d : Disks D). RoseOnOne g d new) looked.0 failed.1),
        inr (makes_unwritten old new mid.conf conf looked.1 none same
            (second ∙ ap (λ (d : Disks D). d.err_b) looked.0)),
      )

  -- they were, and the configuration was written, or not
  pub finish_does : (old looked mid : Disks D) (payload : List ℕ) (conf : Conf)
      (result : Result (Disks D) (StoreRefused D)) → OnlyLooked g old looked
      → ((c : List ℕ) → g.images looked.conf c → IsEmptyOrNone c)
      → ((c : List ℕ) → g.seen old.conf ≡ Some c → IsEmptyOrNone c)
      → g.failures looked.conf ≡ g.failures old.conf → payload ≡ conf_bytes conf
      → mid.conf ≡ looked.conf → mid.err_b ≡ looked.err_b
      → ((c : Contents) → AreTold g looked c → AreReady g mid)
      → IfOk result (λ made. (bytes c : List ℕ) → g.seen mid.conf ≡ Some bytes
      → g.images made.conf c → IsJournal c 0 (payload ∷ []))
      → ((bytes : List ℕ) → g.seen mid.conf ≡ Some bytes
      → LeavesOnly g mid.conf (disks_back result).conf (IsNoneOrConf payload))
      → disks_back result ≡ record mid { conf = (disks_back result).conf }
      → IfErr result (λ refused. (refused.fault ≡ DiskFailed)
      × Rose (g.failures mid.conf) (g.failures refused.disks.conf))
      → InitDoes g old conf result
  finish_does old looked mid payload conf (Ok new) look none was kept is same second ready made
      leaves others rose =
      let told_mid : (c : Contents) → AreTold g old c → AreReady g mid =
      λ c told. ready c (subst (λ (d : Disks D). AreTold g d c) (sym look.0)
      (told_looked old looked.conf c look.1.same told)) in
      let still = subst (λ (d : D). OnlyRead g old.conf d) (sym same) look.1 in record {
        makes = makes_written old mid new payload conf still
            (subst (λ (d : D). (c : List ℕ) → g.images d c → IsEmptyOrNone c) (sym same) none) is
            leaves told_mid others (second ∙ ap (λ (d : Disks D). d.err_b) look.0);
        was_none = was;
        is_new = λ told c there left.
            is_new_store mid new payload conf told c is made (still.same ∙ there ConfDisk)
            (told_mid told there) others left;
      }
  finish_does old looked mid payload conf (Err refused) look none was kept is same second ready
      made leaves others rose =
      let told_mid : (c : Contents) → AreTold g old c → AreReady g mid =
      λ c told. ready c (subst (λ (d : Disks D). AreTold g d c) (sym look.0)
      (told_looked old looked.conf c look.1.same told)) in
      let still = subst (λ (d : D). OnlyRead g old.conf d) (sym same) look.1 in
      subst (λ (f : StoreFault). InitRefused g old refused.disks conf f) (sym rose.0) (
        inl (subst (λ (n : ℕ). Rose n (g.failures refused.disks.conf))
            (ap g.failures same ∙ kept) rose.1),
        inr (makes_written old mid refused.disks payload conf still
            (subst (λ (d : D). (c : List ℕ) → g.images d c → IsEmptyOrNone c) (sym same) none) is
            leaves told_mid others (second ∙ ap (λ (d : Disks D). d.err_b) look.0)),
      )
