-- From a store that took entries to what its disks hold.
use Rattle.std.proofs.Common.{◌≡◌, ◌⊎◌, inl, inr, ℕ, ◌+◌, ◌-◌, ◌^◌, ◌==◌, nat_lt}
use Rattle.std.proofs.Common.{if◌then◌else◌, List}
use Rattle.std.proofs.Common.{[], ◌∷◌, ◌++◌, Bool, true, false, length, Option, Some, None, Result}
use Rattle.std.proofs.Common.{Ok, Err, refl, sym, ◌∙◌, ap, subst, arith, append_assoc}
use Rattle.std.specs.Prelude.{MatchResult}
use Rattle.std.specs.Io.KnownBytes.{Appends, Consumes, IsAtEnd}
use Rattle.std.specs.Result.{IfErr, OnOk}
use Rattle.std.specs.List.{All}
use Rattle.std.proofs.lemmas.List.{length-map}
use Rattle.std.proofs.lemmas.List.Elements.{All-append, All-cons, All-nil}
use Rattle.fm_answers.specs.Accounts.{Accounts}
use Rattle.fm_answers.specs.StreamsAt.{SourceAt, SinkAt}
use Rattle.fm_answers.specs.Running.{RanAll, RanUntil}
use Rattle.fm_answers.specs.Stops.{of_store}
use Rattle.fm_answers.specs.declared.stops.Stop.{Stop}
use Rattle.fm_answers.specs.declared.stops.Stop.TheVariants.{Read, Write, Disk, Full}
use Rattle.fm_answers.proofs.Weaker.{all_weaker, until_weaker}
use Rattle.fm_answers.specs.Recording.{payloads_of, store_with, FullCause, BookLeft, Recorded}
use Rattle.fm_answers.specs.Recording.{LastIsSpelled}
use Rattle.fm_core.specs.Book.{ModuleState}
use Rattle.fm_entry.specs.Entries.{IsSpelled, entry_bytes}
use Rattle.fm_entry.specs.declared.entry.Entry.{Entry}
use Rattle.fm_init.specs.Making.{AreFirstModules}
use Rattle.fm_journal.specs.Causes.{refused}
use Rattle.fm_journal.specs.Format.{end_of}
use Rattle.fm_journal.specs.JournalOf.{JournalOf}
use Rattle.fm_journal.specs.Keeps.{Keeps}
use Rattle.fm_journal.specs.declared.fault.FullKind.{FullKind}
use Rattle.fm_journal.specs.declared.fault.FullKind.TheVariants.{Records, Numbers, Bytes, Payload}
use Rattle.fm_journal.specs.declared.fault.FullKind.TheVariants.{Input}
use Rattle.fm_journal.specs.declared.fault.JournalFault.{JournalFault}
use Rattle.fm_journal.specs.declared.fault.JournalFault.TheVariants as fault
use Rattle.fm_lent.specs.Lending.{six_paired}
use Rattle.fm_lent.proofs.Lending.{six_of_paired}
use Rattle.fm_logs.specs.Contents.{Contents, AreTold, WereOnlyRead, content_named, disk_named}
use Rattle.fm_logs.specs.Contents.{AreSameDisks, active_of_two}
use Rattle.fm_logs.specs.LogsOf.{CannotTake}
use Rattle.fm_payloads.specs.Spelling.{EachSpells}
use Rattle.fm_logs.specs.ReadsAsBook.{SpellsEntry}
use Rattle.fm_logs.specs.StoreBook.{StoreBook}
use Rattle.fm_logs.specs.declared.disks.Disks.{Disks}
use Rattle.fm_logs.specs.declared.disks.DiskName.{DiskName}
use Rattle.fm_logs.specs.declared.disks.DiskName.TheVariants.{Conf, ErrA, ErrB, SlotA, SlotB}
use Rattle.fm_logs.specs.declared.fault.StoreFault.{StoreFault}
use Rattle.fm_logs.specs.declared.fault.StoreFault.TheVariants as store
use Rattle.fm_looks.specs.Opening.{book_read}
use Rattle.fm_modules.specs.Modules.{file_count}
use Rattle.fm_modules.specs.OpenStore.{OpensStore, OpenStoreRefused}
use Rattle.fm_modules.specs.declared.opening.OpenStore.{OpenStore}
use Rattle.fm_modules.proofs.FirstModules.{first_are}
use Rattle.fm_outer.specs.Failures.{Rose}
use Rattle.fm_outer.specs.Moments.{OnlyRead}
use Rattle.fm_outer.specs.declared.disk.Disk.{Ghosts}
use Rattle.fm_store.specs.Opened.{NoneFailed, RoseOnAny}
use Rattle.fm_store.specs.StoreCalls.{next_entry}
use Rattle.fm_store.specs.StoreLeft.{store_disk, AreDisksOf, StoreIsLeft}
use Rattle.fm_store.specs.StoreOf.{StoreOf, StoreStandsFor}
use Rattle.fm_store.proofs.OpeningLaws.{reads_as_book}
use Rattle.fm_store.proofs.StoreReads.{left_active, says_left, store_reads}
use Rattle.fm_top.specs.Accepting.{AcceptRan, AcceptedAll, AcceptedUntil, NotOpened, OpeningStops}
use Rattle.fm_top.specs.Accepting.{DisksAccount, Grew, ImageReads, LimitIs}
use Rattle.fm_top.specs.Exact.{ReadsExact}
use Rattle.fm_top.specs.Kept.{BookAt}
use Rattle.fm_top.proofs.Exactness.{reads_exact}
use Rattle.fm_top.specs.Outside.{disks_at}
use Rattle.fm_top.proofs.SixDisks.{told_all, images_all, all_only_read, rose_any, none_counts}

-- ---- which limit is reached

-- what an open journal refuses by
abbrev IsOfLimits : JournalFault → Type 0
IsOfLimits why = (why ≡ fault.Full Records)
    ⊎ ((why ≡ fault.Full Numbers) ⊎ (why ≡ fault.Full Bytes))

open_refusal : (first count end size : ℕ) (why : JournalFault)
    → refused None first count end size ≡ Some why → IsOfLimits why
open_refusal first count end size why is =
    by_tests (count == 2 ^ 32 - 1) (first + count == 2 ^ 46) (nat_lt (2 ^ 40) (end + 1 + size)) is
  where
    by_tests : (a b c : Bool)
        → (if a then Some (fault.Full Records) else if b then Some (fault.Full Numbers)
        else if c then Some (fault.Full Bytes) else None) ≡ Some why
        → IsOfLimits why
    by_tests true b c e = inl cc
    by_tests false true c e = inr (inl cc)
    by_tests false false true e = inr (inr cc)
    by_tests false false false e = absurd (let no : ⊥ = cc in no)

no_payload : IsOfLimits (fault.Full Payload) → ⊥
no_payload (inl e) = cc
no_payload (inr (inl e)) = cc
no_payload (inr (inr e)) = cc

no_input : IsOfLimits (fault.Full Input) → ⊥
no_input (inl e) = cc
no_input (inr (inl e)) = cc
no_input (inr (inr e)) = cc

full_cause : (first count end : ℕ) (entry : Entry) (kind : FullKind)
    → refused None first count end (5 + length (entry_bytes entry)) ≡ Some (fault.Full kind)
    → FullCause first count end entry kind
full_cause first count end entry Records is = is
full_cause first count end entry Numbers is = is
full_cause first count end entry Bytes is = is
full_cause first count end entry Payload is =
    absurd (no_payload (open_refusal first count end _ (fault.Full Payload) is))
full_cause first count end entry Input is =
    no_input (open_refusal first count end _ (fault.Full Input) is)

-- payloads that spell entries are theirs
all_spelled : (payloads : List (List ℕ)) (entries : List Entry)
    → EachSpells SpellsEntry payloads entries → payloads ≡ payloads_of entries
all_spelled [] [] spelled = refl
all_spelled (p ∷ payloads) (e ∷ entries) spelled =
    λ i. spelled.0.1 i ∷ all_spelled payloads entries spelled.1 i
all_spelled [] (e ∷ entries) spelled = absurd spelled
all_spelled (p ∷ payloads) [] spelled = absurd spelled

module _ {D : Type 0} (g : Ghosts D) where
  -- a journal that keeps the entries' payloads has no room for one more
  full_of : (j : JournalOf D) (payloads : List (List ℕ)) (entries : List Entry) (entry : Entry)
      (kind : FullKind) → Keeps g j payloads → EachSpells SpellsEntry payloads entries
      → CannotTake j (entry_bytes entry) kind
      → FullCause j.first (length entries) (end_of (payloads_of entries)) entry kind
  full_of j payloads entries entry kind keeps spelled (inl (is, long)) =
      subst (λ k. FullCause j.first (length entries) (end_of (payloads_of entries)) entry k)
      (sym is)
      long
  full_of j payloads entries entry kind keeps spelled (inr (short, is)) =
      let same : payloads ≡ payloads_of entries = all_spelled payloads entries spelled in
      let count : j.count ≡ length entries =
      keeps.counted ∙ ap length same ∙ length-map entries entry_bytes in
      full_cause j.first (length entries) (end_of (payloads_of entries)) entry kind
      (subst (λ n. refused None j.first n (end_of (payloads_of entries))
      (5 + length (entry_bytes entry)) ≡ Some (fault.Full kind)) count
      (subst (λ n. refused None j.first j.count n (5 + length (entry_bytes entry))
      ≡ Some (fault.Full kind)) (keeps.ends ∙ ap end_of same)
      (subst (λ c. refused c j.first j.count j.end (5 + length (entry_bytes entry))
      ≡ Some (fault.Full kind)) keeps.is_open is)))

-- ---- what the disks hold

module _ {D M : Type 0} (g : Ghosts D)
    (seen_is_image : (disk : D) (c : List ℕ) → g.seen disk ≡ Some c → g.images disk c) where
  -- what the disks of an open store tell, a crash now may leave
  told_left : (disks : Disks D) (store : StoreOf D M) (c : Contents)
      → ((name : DiskName) → OnlyRead g (disk_named name disks) (store_disk name store))
      → AreTold g disks c → StoreIsLeft g store c
  told_left disks store c read told name =
      seen_is_image (store_disk name store) (content_named name c)
      ((read name).same ∙ told name)

  pub limit_of : (fresh : List ModuleState) (store now : StoreOf D M) (k : StoreBook) (c : Contents)
      (es : List Entry) (last : Option (Stop × Entry)) → StoreStandsFor g fresh store k
      → StoreIsLeft g store c → Recorded g store now es last → LimitIs c fresh k es last
  limit_of fresh store now k c es None st left went = tt
  limit_of fresh store now k c es (Some (Full kind, entry)) st left went =
      let keep = went.logs.0 st.older k.book.records st.keep in
      let begins : now.logs.active.first ≡ store.logs.active.first =
      omega (arith, keep.begins, st.keep.begins, went.base_is) in
      let logged : st.older ++ now.logs.entries ≡ (st.older ++ store.logs.entries) ++ es =
      ap (λ xs. st.older ++ xs) went.entries_are
      ∙ sym (append_assoc st.older store.logs.entries es) in
      record {
        second = store.logs.second;
        says = says_left g fresh store k c st (left Conf) (left SlotA) (left SlotB);
        first = store.logs.active.first;
        logged = st.older ++ store.logs.entries;
        active = record {
          payloads = st.keep.entry_payloads;
          journal = st.keep.entries_keep.left (active_of_two store.logs.second c)
              (left_active g store c (left ErrA) (left ErrB));
          spelled = st.keep.entries_spelled;
        };
        reached = subst (λ n. FullCause n (length ((st.older ++ store.logs.entries) ++ es))
            (end_of (payloads_of ((st.older ++ store.logs.entries) ++ es))) entry kind) begins
            (subst (λ xs. FullCause now.logs.active.first (length xs) (end_of (payloads_of xs))
            entry kind) logged
            (full_of g now.logs.active keep.entry_payloads (st.older ++ now.logs.entries) entry kind
            keep.entries_keep keep.entries_spelled went.logs.1));
      }
  limit_of fresh store now k c es (Some (_, entry)) st left went = tt

  -- an image of a store that stands for the book with these entries
  stands_read : (told : Contents) (stood : BookAt told) (now : StoreOf D M) (es : List Entry)
      (image : Contents) → All IsSpelled es
      → StoreStandsFor g stood.fresh now (store_with stood.book es) → StoreIsLeft g now image
      → ReadsExact stood es image
  stands_read told stood now es image spelled stands left =
      reads_exact told stood es image spelled
      (store_reads g stood.fresh now (store_with stood.book es) stands image left)

  images_read : (told : Contents) (stood : BookAt told) (now : StoreOf D M) (es : List Entry)
      (last : Option (Stop × Entry)) (image : Contents) → All IsSpelled es → LastIsSpelled last
      → BookLeft g stood.fresh now stood.book es last → StoreIsLeft g now image
      → ImageReads stood es last image
  images_read told stood now es None image spelled one stands left =
      stands_read told stood now es image spelled stands left
  images_read told stood now es (Some (Disk, entry)) image spelled one either left =
      elim (either image left) [
        | inl without ↦ inl (reads_exact told stood es image spelled without)
        | inr within ↦ inr (reads_exact told stood (es ++ entry ∷ []) image
            (All-append IsSpelled es (entry ∷ []) spelled
            (All-cons IsSpelled entry [] one (All-nil IsSpelled))) within)
      ]
  images_read told stood now es (Some (Full kind, entry)) image spelled one stands left =
      stands_read told stood now es image spelled stands left
  images_read told stood now es (Some (_, entry)) image spelled one none left = absurd none

  -- the store stands for the book that the contents read as
  abbrev pub StandsAt : StoreOf D M → Contents → Type 0
  StandsAt store c = (stood : BookAt c) × StoreStandsFor g stood.fresh store stood.book

  -- what became of the store, in the words of its disks
  pub grew_of : (disks disks_now : Disks D) (store now : StoreOf D M)
      → ((name : DiskName) → OnlyRead g (disk_named name disks) (store_disk name store))
      → ((c : Contents) → AreTold g disks c → StandsAt store c) → AreDisksOf now disks_now
      → (es : List Entry) (last : Option (Stop × Entry)) → Recorded g store now es last
      → Grew (disks_at g disks) (disks_at g disks_now) (next_entry store.logs) es last
  grew_of disks disks_now store now read stands_at are es last went told tells =
      let at_told = told_all g disks told tells in
      let (stood, st) = stands_at told at_told in
      record {
        stood = stood;
        numbered = λ i. st.base_is i + length (st.entries_are i);
        left = λ image leaves. images_read told stood now es last image went.spelled
            went.last_spelled (went.book stood.fresh stood.book st)
            (λ name. subst (λ (d : D). g.images d (content_named name image)) (sym (are name))
            (images_all g disks_now image leaves name));
        limit = limit_of stood.fresh store now stood.book told es last st
            (told_left disks store told read at_told) went;
      }

module _ {D M : Type 0} (g : Ghosts D) where
  -- a count of a disk rose since before the opening
  rose_since : (disks disks_now : Disks D) (store now : StoreOf D M) (es : List Entry)
      (entry : Entry)
      → ((name : DiskName)
      → g.failures (store_disk name store) ≡ g.failures (disk_named name disks))
      → AreDisksOf now disks_now → Recorded g store now es (Some (Disk, entry))
      → RoseOnAny g disks disks_now
  rose_since disks disks_now store now es entry quiet are went = (
    went.counts.0,
    subst (λ (d : D). Rose (g.failures (disk_named went.counts.0 disks)) (g.failures d))
        (are went.counts.0)
        (subst (λ n. Rose n (g.failures (store_disk went.counts.0 now))) (quiet went.counts.0)
        went.counts.1),
  )

  none_since : (disks disks_now : Disks D) (store now : StoreOf D M) (es : List Entry)
      → ((name : DiskName)
      → g.failures (store_disk name store) ≡ g.failures (disk_named name disks))
      → AreDisksOf now disks_now → Recorded g store now es None → NoneFailed g disks disks_now
  none_since disks disks_now store now es quiet are went name =
      sym (ap g.failures (are name)) ∙ went.counts name ∙ quiet name

  -- how the disks' counts go with a run, whatever its end
  pub disks_account : (disks disks_now : Disks D) (store now : StoreOf D M)
      (puts : List ℕ → Type 0) (is_told : Bool) (next : ℕ) (consumes : List ℕ → Type 0)
      (at_end : Type 0) (r : Result (Unit {0}) Stop)
      → ((name : DiskName)
      → g.failures (store_disk name store) ≡ g.failures (disk_named name disks))
      → AreDisksOf now disks_now
      → OnOk r (RanAll (Recorded g store now) puts is_told next consumes at_end)
      → IfErr r (RanUntil (Recorded g store now) puts is_told next consumes at_end)
      → DisksAccount (disks_at g disks) (disks_at g disks_now) r
  disks_account disks disks_now store now puts is_told next consumes at_end (Ok done) quiet are all
      until = none_counts g disks disks_now (none_since disks disks_now store now _ quiet are
      all.took)
  disks_account disks disks_now store now puts is_told next consumes at_end (Err Disk) quiet are all
      (inl ran) = absurd ran.why
  disks_account disks disks_now store now puts is_told next consumes at_end (Err Disk) quiet are all
      (inr ran) =
      let (put, (entry, only, last)) = ran.stops in
      rose_any g disks disks_now (rose_since disks disks_now store now _ entry quiet are last)
  disks_account disks disks_now store now puts is_told next consumes at_end (Err _) quiet are all
      until = tt

  -- the whole command, once its store was opened
  pub opened_ran : (seen_is_image : (disk : D) (c : List ℕ) → g.seen disk ≡ Some c
      → g.images disk c) (disks disks_now : Disks D) (store now : StoreOf D M)
      (input input_now : SourceAt) (out out_now : SinkAt) (r : Result (Unit {0}) Stop)
      → ((name : DiskName) → OnlyRead g (disk_named name disks) (store_disk name store))
      → ((name : DiskName)
      → g.failures (store_disk name store) ≡ g.failures (disk_named name disks))
      → ((c : Contents) → AreTold g disks c → StandsAt g seen_is_image store c)
      → AreDisksOf now disks_now
      → OnOk r (RanAll (Recorded g store now) (Appends out.bytes out_now.bytes) true
      (next_entry store.logs) (Consumes input.left input_now.left) (IsAtEnd input_now.left))
      → IfErr r (RanUntil (Recorded g store now) (Appends out.bytes out_now.bytes) true
      (next_entry store.logs) (Consumes input.left input_now.left) (IsAtEnd input_now.left))
      → Accounts Read input.failures input_now.failures r
      → Accounts Write out.failures out_now.failures r
      → AcceptRan input input_now out out_now (disks_at g disks) (disks_at g disks_now) r
  opened_ran seen_is_image disks disks_now store now input input_now out out_now r read quiet
      stands_at are all until counts_input counts_out = record {
        went = went r all until;
        counts_input = counts_input;
        counts_out = counts_out;
        counts_disks = disks_account disks disks_now store now _ _ _ _ _ r quiet are all until;
      }
    where
      grew : (es : List Entry) (last : Option (Stop × Entry)) → Recorded g store now es last
          → Grew (disks_at g disks) (disks_at g disks_now) (next_entry store.logs) es last
      grew = grew_of g seen_is_image disks disks_now store now read stands_at are

      went : (r : Result (Unit {0}) Stop)
          → OnOk r (RanAll (Recorded g store now) (Appends out.bytes out_now.bytes) true
          (next_entry store.logs) (Consumes input.left input_now.left) (IsAtEnd input_now.left))
          → IfErr r (RanUntil (Recorded g store now) (Appends out.bytes out_now.bytes) true
          (next_entry store.logs) (Consumes input.left input_now.left) (IsAtEnd input_now.left))
          → MatchResult r
          (λ _. AcceptedAll input input_now out out_now (disks_at g disks) (disks_at g disks_now))
          (λ stop. NotOpened input input_now out out_now (disks_at g disks) (disks_at g disks_now)
          stop ⊎ AcceptedUntil input input_now out out_now (disks_at g disks)
          (disks_at g disks_now) stop)
      went (Ok done) all until = record {
        next = next_entry store.logs;
        ran = all_weaker _ _ _ true (next_entry store.logs) _ _ grew all;
      }
      went (Err stop) all until = inr (record {
        next = next_entry store.logs;
        ran = until_weaker _ _ _ true (next_entry store.logs) _ _ stop grew until;
      })

-- what is open stands for what the contents read as
pub stands_of : {D : Type 0} (g : Ghosts D)
    (seen_is_image : (disk : D) (c : List ℕ) → g.seen disk ≡ Some c → g.images disk c)
    (c : Contents) (opened : OpenStore D) → OpensStore g c opened
    → StandsAt g seen_is_image opened.store c
stands_of g seen_is_image c opened opens = (
  record {
    fresh = opens.fresh;
    book = book_read opens.adopts.read;
    made = opens.modules;
    reads = reads_as_book opens.fresh c opens.adopts.read
        (subst AreFirstModules (sym opens.modules.modules_are)
        (first_are (file_count opens.adopts.read.confs) opens.modules.rows)) opens.adopts.pass;
  },
  opens.adopts.stands,
)

-- the disks that come back of a store are those that it was opened on
pub same_back : {D M : Type 0} (g : Ghosts D) (disks disks_now : Disks D) (store now : StoreOf D M)
    → ((name : DiskName) → OnlyRead g (disk_named name disks) (store_disk name store))
    → six_paired (λ n. g.name (store_disk n now)) ≡ six_paired (λ n. g.name (store_disk n store))
    → AreDisksOf now disks_now → AreSameDisks g disks disks_now
same_back g disks disks_now store now read same are name =
    sym (ap g.name (are name))
    ∙ six_of_paired (λ n. g.name (store_disk n now)) (λ n. g.name (store_disk n store)) same name
    ∙ (read name).same_disk

pub read_back : {D : Type 0} (g : Ghosts D) (disks disks_now : Disks D)
    → WereOnlyRead g disks disks_now → AreSameDisks g disks disks_now
read_back g disks disks_now read name = (read name).same_disk

-- ---- a store that was not opened

-- no fault of a store is one of the input or of the sink
pub of_no_stream : (fault : StoreFault) → (of_store fault ≡ Read → ⊥) × (of_store fault ≡ Write → ⊥)
of_no_stream store.Disk = (λ e. cc, λ e. cc)
of_no_stream (store.Full kind) = (λ e. cc, λ e. cc)
of_no_stream (store.Closed disk failures) = (λ e. cc, λ e. cc)
of_no_stream (store.Damaged disk place) = (λ e. cc, λ e. cc)
of_no_stream store.Exists = (λ e. cc, λ e. cc)
of_no_stream store.NoMemory = (λ e. cc, λ e. cc)

module _ {D : Type 0} (g : Ghosts D) where
  -- why the opening stopped, and how the counts of the disks go with that
  pub opening_stops : (disks disks_now : Disks D) (fault : StoreFault)
      → OpenStoreRefused g disks disks_now fault
      → OpeningStops (disks_at g disks) (of_store fault)
  opening_stops disks disks_now store.Disk refused = tt
  opening_stops disks disks_now store.NoMemory refused = tt
  opening_stops disks disks_now (store.Damaged disk place) refused =
      λ told tells. refused told (told_all g disks told tells)
  opening_stops disks disks_now _ refused = absurd refused

  pub opening_account : (T : Type 0) (disks disks_now : Disks D) (fault : StoreFault)
      → OpenStoreRefused g disks disks_now fault
      → DisksAccount {T = T} (disks_at g disks) (disks_at g disks_now) (Err (of_store fault))
  opening_account T disks disks_now store.Disk why = rose_any g disks disks_now why
  opening_account T disks disks_now store.NoMemory why = tt
  opening_account T disks disks_now (store.Damaged disk place) why = tt
  opening_account T disks disks_now _ why = absurd why

  -- the whole command, where its store was not opened
  pub not_opened : (disks disks_now : Disks D) (input : SourceAt) (out : SinkAt)
      (fault : StoreFault) → OpenStoreRefused g disks disks_now fault
      → WereOnlyRead g disks disks_now
      → AcceptRan input input out out (disks_at g disks) (disks_at g disks_now)
      (Err (of_store fault))
  not_opened disks disks_now input out fault refused read = record {
    went = inl (record {
      consumed = refl;
      put = refl;
      untouched = all_only_read g disks disks_now read;
      why = opening_stops disks disks_now fault refused;
    });
    counts_input = (omega arith, λ e. absurd ((of_no_stream fault).0 e));
    counts_out = (omega arith, λ e. absurd ((of_no_stream fault).1 e));
    counts_disks = opening_account (Unit {0}) disks disks_now fault refused;
  }
