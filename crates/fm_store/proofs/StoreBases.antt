-- A store with a new base: a slot that says it, and what a crash leaves meanwhile.
use Rattle.std.proofs.Common.{◌≡◌, ◌≢◌, inl, inr, ℕ, ◌+◌, ◌<◌, List, [], ◌++◌}
use Rattle.std.proofs.Common.{length, Bool, true, false, not, Option, Some, None}
use Rattle.std.proofs.Common.{refl, sym, ◌∙◌, ap, subst, arith}
use Rattle.std.specs.Option.{option_map}
use Rattle.fm_core.specs.Book.{Book, ModuleState, is_done, next_number}
use Rattle.fm_core.specs.Book.{greatest_from}
use Rattle.fm_core.proofs.Drains.{drained_based}
use Rattle.fm_entry.specs.declared.entry.Entry.{Entry}
use Rattle.fm_outer.specs.Moments.{LeavesOnly}
use Rattle.fm_outer.specs.declared.disk.Disk.{Ghosts}
use Rattle.fm_outer.proofs.Moments.{OnlyNow, leaves-weaker, leaves-still}
use Rattle.fm_saved.specs.declared.checkpoint.Checkpoint.{Checkpoint}
use Rattle.fm_slots.specs.Filling.{IsOldOrReplaced}
use Rattle.fm_slots.specs.Format.{SlotOf, IsOpenSlot}
use Rattle.fm_slots.specs.InForce.{InForce, InForceBeside, KeepsInForce, sequence_of}
use Rattle.fm_slots.proofs.Forces.{kept_beside, later_beside}
use Rattle.fm_logs.specs.Contents.{Contents, active_of_two, with_logs}
use Rattle.fm_logs.specs.LogsBook.{DrainAlike}
use Rattle.fm_logs.specs.ReadsAsBook.{AreLoaded, IsLog, SpellsConf, SpellsEntry, SpellsSpoken}
use Rattle.fm_logs.specs.ReadsAsBook.{SaysBase}
use Rattle.fm_logs.specs.StoreBook.{StoreBook, IsLawfulStore, force_now, force_along}
use Rattle.fm_logs.specs.declared.disks.DiskName.TheVariants.{Conf as ConfDisk, ErrA, ErrB, SlotA}
use Rattle.fm_logs.specs.declared.disks.DiskName.TheVariants.{SlotB, Flt}
use Rattle.fm_store.specs.StoreOf.{StoreOf, StoreBaseOf, StoreStandsFor, SlotsSay, of_two}
use Rattle.fm_store.specs.StoreOf.{fills_second, newest_sequence, greatest_at, force_at}
use Rattle.fm_store.specs.Slots.{next_slot, kept_slot}
use Rattle.fm_store.specs.StoreLeft.{store_disk, with_content, OthersAreLeft, MomentsOn, ReadsLike}
use Rattle.fm_looks.specs.Opening.{slot_name}
use Rattle.fm_store.specs.StoreCalls.{IsNextFrame, checkpoint_at, next_entry}
use Rattle.fm_store.proofs.Based.{at_end, based_is}
use Rattle.fm_store.proofs.StoreReads.{like, like_through, left_active, says_with, records_left}
use Rattle.fm_store.proofs.StoreReads.{entries_left}

-- the sequence of the slot in force
sequence_found : (found : Option (Bool × SlotOf))
    → newest_sequence (option_map (λ f. (f.0, f.1.sequence)) found) ≡ sequence_of found
sequence_found None = refl
sequence_found (Some f) = refl

-- what is known of a book at its end
pub end_alike : (k : StoreBook) → IsLawfulStore k → is_done k.book ≡ true
    → DrainAlike (at_end k).book k.book
end_alike k lawful done =
    subst (λ (b : Book). DrainAlike b k.book) (based_is k.book done)
    (λ es. drained_based k.book es lawful.lawful)

-- contents with another slot
slot_logs : (f second : Bool) (image : List ℕ) (c : Contents)
    → with_logs (with_content (slot_name f) image c) second (active_of_two second c) c.flt
    ≡ with_content (slot_name f) image c
slot_logs true true image c = refl
slot_logs true false image c = refl
slot_logs false true image c = refl
slot_logs false false image c = refl

-- which slot is in force in them
slot_force : (f : Bool) (image : List ℕ) (c : Contents) (found : Option (Bool × SlotOf))
    → InForceBeside f (of_two f c.slot_b c.slot_a) image found
    → InForce (with_content (slot_name f) image c).slot_a
    (with_content (slot_name f) image c).slot_b found
slot_force true image c found beside = beside
slot_force false image c found beside = beside

slot_conf : (f : Bool) (image : List ℕ) (c : Contents)
    → c.conf ≡ (with_content (slot_name f) image c).conf
slot_conf true image c = refl
slot_conf false image c = refl

like_slot : (f : Bool) (fresh : List ModuleState) (c : Contents) (second : Bool) (k : StoreBook)
    (first flt_first conf_first : ℕ) (older : List Entry) (image : List ℕ)
    (found : Option (Bool × SlotOf)) (checkpoint : Checkpoint)
    → IsLog SpellsConf c.conf conf_first k.confs
    → InForceBeside f (of_two f c.slot_b c.slot_a) image found
    → SaysBase fresh found checkpoint k.book.modules → checkpoint.second ≡ second
    → checkpoint.base ≡ k.book.base → checkpoint.moment ≡ k.book.moment
    → checkpoint.conf ≡ k.in_force → IsLawfulStore k → first + length older ≡ k.book.base
    → IsLog SpellsEntry (active_of_two second c) first (older ++ k.book.entries)
    → IsLog SpellsSpoken c.flt flt_first k.book.records
    → ReadsLike fresh k (with_content (slot_name f) image c)
like_slot f fresh c second k first flt_first conf_first older image found checkpoint confs beside
    says is base moment force lawful begins entries records =
    like fresh (with_content (slot_name f) image c) (with_content (slot_name f) image c) second k
    first flt_first older (active_of_two second c) c.flt
    (says_with fresh (with_content (slot_name f) image c) second k conf_first found checkpoint
    (subst (λ (l : List ℕ). IsLog SpellsConf l conf_first k.confs) (slot_conf f image c) confs)
    (slot_force f image c found beside) says is base moment force)
    lawful begins entries records (slot_logs f second image c)

-- the name of a slot's disk is none of the others
conf_no_slot : (f : Bool) → ConfDisk ≢ slot_name f
conf_no_slot true same = cc same
conf_no_slot false same = cc same

flt_no_slot : (f : Bool) → Flt ≢ slot_name f
flt_no_slot true same = cc same
flt_no_slot false same = cc same

pub err_a_no_slot : (f : Bool) → ErrA ≢ slot_name f
err_a_no_slot true same = cc same
err_a_no_slot false same = cc same

pub err_b_no_slot : (f : Bool) → ErrB ≢ slot_name f
err_b_no_slot true same = cc same
err_b_no_slot false same = cc same

a_no_second : SlotA ≢ SlotB
a_no_second same = cc same

b_no_first : SlotB ≢ SlotA
b_no_first same = cc same

module _ {D : Type 0} (g : Ghosts D) where
  kept_next : (f : Bool) (a b : D) (frame : SlotOf)
      → ((c : List ℕ) → g.images (of_two f a b) c → IsOpenSlot c frame.sequence frame.payload)
      → (c : List ℕ) → g.images (of_two (not f) b a) c
      → KeepsInForce (not f) c (Some (f, frame))
  kept_next true a b frame opened c left =
      record { slot = Some frame; reads = opened c left; is = refl }
  kept_next false a b frame opened c left =
      record { slot = Some frame; reads = opened c left; is = refl }

  beside_next : (f : Bool) (a b : D) (frame : SlotOf)
      → ((kept c : List ℕ) → g.images (of_two f b a) kept → g.images (of_two f a b) c
      → InForceBeside f kept c (Some (f, frame)))
      → (c other : List ℕ) → g.images (of_two (not f) b a) c
      → g.images (of_two (not f) a b) other
      → InForceBeside (not f) c other (Some (f, frame))
  beside_next true a b frame beside c other one two = beside other c two one
  beside_next false a b frame beside c other one two = beside other c two one

-- The entries of the journal that the new base names, which are none from that base on.
pub record EndsThere (second : Bool) (k : StoreBook) (c : Contents) : Type 0 where
  pub first : ℕ
  pub older : List Entry
  pub begins : first + length older ≡ next_number k.book
  pub entries : IsLog SpellsEntry (active_of_two second c) first (older ++ [])

-- the numbers of a book at its end are those that a store writes
module _ {D M : Type 0} (g : Ghosts D) where
  pub base_at_end : (fresh : List ModuleState) (store : StoreOf D M) (k : StoreBook)
      → StoreStandsFor g fresh store k → next_entry store.logs ≡ next_number k.book
  base_at_end fresh store k st =
      ap (λ (n : ℕ). n + length store.logs.entries) st.base_is
      ∙ ap (λ (es : List Entry). k.book.base + length es) st.entries_are

  pub moment_at_end : (fresh : List ModuleState) (store : StoreOf D M) (k : StoreBook)
      → StoreStandsFor g fresh store k → greatest_at store ≡ (at_end k).book.moment
  moment_at_end fresh store k st =
      ap (λ (t : ℕ). greatest_from t store.logs.entries) st.moment_is
      ∙ ap (λ (es : List Entry). greatest_from k.book.moment es) st.entries_are

  pub force_at_end : (fresh : List ModuleState) (store : StoreOf D M) (k : StoreBook)
      → StoreStandsFor g fresh store k → force_at store ≡ force_now k
  force_at_end fresh store k st =
      ap (λ (n : ℕ). force_along n store.logs.entries) st.force_is
      ∙ ap (λ (es : List Entry). force_along k.in_force es) st.entries_are

  -- what the slots say of the book at its end
  pub slots_at_end : (fresh : List ModuleState) (store : StoreOf D M) (k : StoreBook)
      (second : Bool) (states : List (List ℕ)) (frame : SlotOf) (base : StoreBaseOf D M)
      → StoreStandsFor g fresh store k → IsNextFrame store second states frame
      → AreLoaded fresh states (at_end k).book.modules
      → base.newest ≡ Some (fills_second store.base.newest, newest_sequence store.base.newest + 1)
      → kept_slot base store.base.newest ≡ kept_slot store.base store.base.newest
      → ((c : List ℕ) → g.images (next_slot base store.base.newest) c
      → IsOpenSlot c frame.sequence frame.payload)
      → SlotsSay g fresh second base (at_end k)
  slots_at_end fresh store k second states frame base st next loaded newest kept opened =
      let f = fills_second store.base.newest in
      let here : fills_second base.newest ≡ not f =
      ap (λ (o : Option (Bool × ℕ)). fills_second o) newest in record {
        found = Some (f, frame);
        newest_is = newest
            ∙ ap (λ (s : SlotOf). Some (f, s.sequence)) (sym next.frame_is);
        kept = subst (λ (b : Bool). (c : List ℕ) → g.images (of_two b base.slot_b base.slot_a) c
            → KeepsInForce b c (Some (f, frame))) (sym here)
            (kept_next g f base.slot_a base.slot_b frame opened);
        beside = subst (λ (b : Bool). (c other : List ℕ)
            → g.images (of_two b base.slot_b base.slot_a) c
            → g.images (of_two b base.slot_a base.slot_b) other
            → InForceBeside b c other (Some (f, frame))) (sym here)
            (beside_next g f base.slot_a base.slot_b frame (λ image c left there.
            later_beside f image c st.slots.found frame
            (st.slots.kept image (subst (λ (d : D). g.images d image) kept left))
            later (opened c there)));
        checkpoint = checkpoint_at store second states;
        says = (next.spelled, inl (ap (λ (s : SlotOf). s.payload) next.frame_is), loaded);
        second_is = refl;
        base_is = base_at_end fresh store k st;
        moment_is = moment_at_end fresh store k st;
        force_is = force_at_end fresh store k st;
      }
    where
      later : sequence_of st.slots.found < frame.sequence
      later = omega (
        arith,
        ap (λ (s : SlotOf). s.sequence) next.frame_is,
        ap (λ (o : Option (Bool × ℕ)). newest_sequence o) st.slots.newest_is,
        sequence_found st.slots.found,
      )

  -- the store with another spare disk
  abbrev pub respared : StoreOf D M → D → StoreOf D M
  respared store spare = record store { base = record store.base { spare = spare } }

  -- the image of the slot that is kept
  kept_left : (f : Bool) (store : StoreOf D M) (c : Contents)
      → OthersAreLeft g store (slot_name f) c
      → g.images (of_two f store.base.slot_b store.base.slot_a) (of_two f c.slot_b c.slot_a)
  kept_left true store c others = others SlotA a_no_second
  kept_left false store c others = others SlotB b_no_first

  -- the disk of a slot is the one of its name
  at_slot : (f : Bool) (old new : StoreOf D M) (P : List ℕ → Type 0)
      → LeavesOnly g (of_two f old.base.slot_a old.base.slot_b)
      (of_two f new.base.slot_a new.base.slot_b) P
      → LeavesOnly g (store_disk (slot_name f) old) (store_disk (slot_name f) new) P
  at_slot true old new P leaves = leaves
  at_slot false old new P leaves = leaves

  -- the image of the slot's disk reads like the book, beside the others
  abbrev pub SlotIsRead : Bool → StoreOf D M → List ModuleState → StoreBook → List ℕ → Type 0
  SlotIsRead f store fresh k image = (c : Contents) → OthersAreLeft g store (slot_name f) c
      → ReadsLike fresh k (with_content (slot_name f) image c)

  -- the configurations, beside a slot's disk
  confs_left : (fresh : List ModuleState) (store : StoreOf D M) (spare : D) (k : StoreBook)
      (st : StoreStandsFor g fresh store k) (c : Contents)
      → OthersAreLeft g (respared store spare) (slot_name (fills_second store.base.newest)) c
      → IsLog SpellsConf c.conf store.base.conf.first k.confs
  confs_left fresh store spare k st c others = record {
    payloads = st.conf_payloads;
    journal = st.confs_keep.left c.conf
        (others ConfDisk (conf_no_slot (fills_second store.base.newest)));
    spelled = st.confs_spelled;
  }

  -- where the slot that was in force is, the six read like the book
  pub slot_reads : (fresh : List ModuleState) (store : StoreOf D M) (spare : D) (k : StoreBook)
      (st : StoreStandsFor g fresh store k) (c : Contents) (image : List ℕ)
      → OthersAreLeft g (respared store spare) (slot_name (fills_second store.base.newest)) c
      → InForceBeside (fills_second store.base.newest)
      (of_two (fills_second store.base.newest) c.slot_b c.slot_a) image st.slots.found
      → ReadsLike fresh k (with_content (slot_name (fills_second store.base.newest)) image c)
  slot_reads fresh store spare k st c image others beside =
      let f = fills_second store.base.newest in
      like_slot f fresh c store.logs.second k store.logs.active.first store.logs.flt.first
      store.base.conf.first st.older image st.slots.found st.slots.checkpoint
      (confs_left fresh store spare k st c others) beside st.slots.says st.slots.second_is
      st.slots.base_is st.slots.moment_is st.slots.force_is st.lawful
      (st.keep.begins ∙ st.base_is)
      (entries_left g fresh store k (active_of_two store.logs.second c) st
      (left_active g (respared store spare) c (others ErrA (err_a_no_slot f))
      (others ErrB (err_b_no_slot f))))
      (records_left g fresh store k c.flt st (others Flt (flt_no_slot f)))

  -- at each moment of the writing of the slot a crash leaves what reads like the book
  pub slot_moments : (fresh : List ModuleState) (store new : StoreOf D M) (spare : D)
      (k : StoreBook) (second : Bool) (states : List (List ℕ)) (frame : SlotOf)
      → StoreStandsFor g fresh store k → IsNextFrame store second states frame
      → AreLoaded fresh states (at_end k).book.modules → IsLawfulStore (at_end k)
      → is_done k.book ≡ true
      → ((c : Contents)
      → OthersAreLeft g (respared store spare) (slot_name (fills_second store.base.newest)) c
      → EndsThere second k c)
      → LeavesOnly g (next_slot store.base store.base.newest)
      (next_slot new.base store.base.newest)
      (IsOldOrReplaced (g.images (next_slot store.base store.base.newest)) frame)
      → MomentsOn g (slot_name (fills_second store.base.newest)) (respared store spare) new
      (ReadsLike fresh k)
  slot_moments fresh store new spare k second states frame st next loaded lawful done ends leaves =
      at_slot f mid new (SlotIsRead f mid fresh k)
      (leaves-weaker g (next_slot store.base store.base.newest)
      (next_slot new.base store.base.newest)
      (IsOldOrReplaced (g.images (next_slot store.base store.base.newest)) frame)
      (SlotIsRead f mid fresh k) leaves (λ image either c others.
      let left = kept_left f mid c others in
      let kept = st.slots.kept (of_two f c.slot_b c.slot_a) left in
      elim either [
        | inl old ↦ elim old [
          | inl there ↦ slot_reads fresh store spare k st c image others
              (st.slots.beside (of_two f c.slot_b c.slot_a) image left there)
          | inr closed ↦ slot_reads fresh store spare k st c image others
              (kept_beside f (of_two f c.slot_b c.slot_a) image st.slots.found kept closed)
        ]
        | inr opened ↦ like_through fresh (at_end k) k (with_content (slot_name f) image c) refl
            (end_alike k st.lawful done)
            (moved c others image (ends c others)
            (later_beside f (of_two f c.slot_b c.slot_a) image st.slots.found frame kept later
            opened))
      ]))
    where
      f : Bool
      f = fills_second store.base.newest

      mid : StoreOf D M
      mid = respared store spare

      later : sequence_of st.slots.found < frame.sequence
      later = omega (
        arith,
        ap (λ (s : SlotOf). s.sequence) next.frame_is,
        ap (λ (o : Option (Bool × ℕ)). newest_sequence o) st.slots.newest_is,
        sequence_found st.slots.found,
      )

      moved : (c : Contents) → OthersAreLeft g mid (slot_name f) c → (image : List ℕ)
          → EndsThere second k c
          → InForceBeside f (of_two f c.slot_b c.slot_a) image (Some (f, frame))
          → ReadsLike fresh (at_end k) (with_content (slot_name f) image c)
      moved c others image ends beside =
          like_slot f fresh c second (at_end k) ends.first store.logs.flt.first
          store.base.conf.first ends.older image (Some (f, frame))
          (checkpoint_at store second states) (confs_left fresh store spare k st c others) beside
          (next.spelled, inl (ap (λ (s : SlotOf). s.payload) next.frame_is), loaded) refl
          (base_at_end fresh store k st) (moment_at_end fresh store k st)
          (force_at_end fresh store k st) lawful ends.begins ends.entries
          (records_left g fresh store k c.flt st (others Flt (flt_no_slot f)))

  -- where the slots are as they were, a crash leaves the same at each moment
  pub slot_still : OnlyNow g → (fresh : List ModuleState) (store new : StoreOf D M) (spare : D)
      (k : StoreBook) → StoreStandsFor g fresh store k
      → next_slot new.base store.base.newest ≡ next_slot store.base store.base.newest
      → MomentsOn g (slot_name (fills_second store.base.newest)) (respared store spare) new
      (ReadsLike fresh k)
  slot_still only_now fresh store new spare k st same =
      let f = fills_second store.base.newest in
      let mid = respared store spare in
      at_slot f mid new (SlotIsRead f mid fresh k)
      (subst (λ (d : D). LeavesOnly g (next_slot store.base store.base.newest) d
      (SlotIsRead f mid fresh k)) (sym same)
      (leaves-still g only_now (next_slot store.base store.base.newest)
      (SlotIsRead f mid fresh k) (λ image there c others.
      slot_reads fresh store spare k st c image others
      (st.slots.beside (of_two f c.slot_b c.slot_a) image (kept_left f mid c others) there))))
