-- What a rotation makes of the book that a store stands for.
use Rattle.std.proofs.Common.{◌≡◌, ◌≢◌, ◌⊎◌, inl, inr, ℕ, List, [], Bool, true, false, not}
use Rattle.std.proofs.Common.{Option, Some, Ok, Err, refl, sym, ◌∙◌, ap, subst}
use Rattle.fm_core.specs.Book.{ModuleState, is_done}
use Rattle.fm_core.specs.Hands.{HandOf}
use Rattle.fm_core.specs.declared.module.Module.{Ghosts as ModuleGhosts}
use Rattle.fm_outer.specs.Moments.{LeavesOnly}
use Rattle.fm_outer.specs.declared.disk.Disk.{Ghosts}
use Rattle.fm_outer.proofs.Moments.{CountsNow, OnlyNow, leaves-still}
use Rattle.fm_journal.specs.JournalOf.{JournalOf}
use Rattle.fm_journal.specs.Keeps.{Keeps}
use Rattle.fm_slots.specs.Filling.{IsOldOrReplaced}
use Rattle.fm_slots.specs.Format.{SlotOf}
use Rattle.fm_logs.specs.Contents.{Contents, content_named}
use Rattle.fm_logs.specs.LogsOf.{LogsOf, LogsKeep, name_of_two}
use Rattle.fm_logs.specs.ReadsAsBook.{AreLoaded}
use Rattle.fm_logs.specs.StoreBook.{StoreBook}
use Rattle.fm_logs.specs.declared.disks.DiskName.{DiskName}
use Rattle.fm_logs.specs.declared.disks.DiskName.TheVariants.{Conf as ConfDisk, ErrA, ErrB, SlotA}
use Rattle.fm_logs.specs.declared.disks.DiskName.TheVariants.{SlotB, Flt}
use Rattle.fm_logs.specs.declared.fault.StoreFault.{StoreFault}
use Rattle.fm_store.specs.Rotating.{ChangesJournal, SpareFails, SlotFails, RotatesOnBook}
use Rattle.fm_store.specs.Rotating.{with_spare}
use Rattle.fm_store.specs.Rotating.{Anything}
use Rattle.fm_store.specs.Slots.{next_slot}
use Rattle.fm_store.specs.StoreCalls.{AreAtEnd, AreLawful, HandsAreDone, saves_of, IsNextFrame}
use Rattle.fm_store.specs.StoreCalls.{next_entry}
use Rattle.fm_store.specs.StoreLimits.{store_of}
use Rattle.fm_store.specs.StoreLeft.{store_disk, MomentsOn, EachLeft}
use Rattle.fm_looks.specs.Opening.{slot_name}
use Rattle.fm_store.specs.StoreLeft.{ReadsLike}
use Rattle.fm_store.specs.StoreOf.{StoreOf, StoreBaseOf, StoreStandsFor, fills_second, of_two}
use Rattle.fm_store.proofs.Based.{at_end, lawful_at_end, store_based_is}
use Rattle.fm_store.proofs.StoreBases.{slot_moments, slot_still, end_alike}
use Rattle.fm_store.proofs.StoreMoves.{done_at_end, hands_load, moved_stands}
use Rattle.fm_store.proofs.StoreMoves.{others_of_slot}
use Rattle.fm_store.proofs.StoreCheckpoints.{PutsAtEnd, WritesSlot, moves_base}
use Rattle.fm_store.proofs.StoreReads.{store_reads, left_now, like_through}
use Rattle.fm_store.proofs.StoreRotates.{spare_moments, begun_ends, begun_keeps}

module _ {D M : Type 0} (g : Ghosts D) where
  -- stores of the same disks leave the same
  each_same : (one other : StoreOf D M) (P : Contents → Type 0)
      → ((name : DiskName) → store_disk name one ≡ store_disk name other) → EachLeft g other P
      → EachLeft g one P
  each_same one other P same each c left =
      each c (λ name. subst (λ (d : D). g.images d (content_named name c)) (same name) (left name))

  -- where only the spare disk is another
  only_spare : (old new : StoreOf D M) → new.logs.second ≡ old.logs.second
      → new.logs.active ≡ old.logs.active → new.logs.flt ≡ old.logs.flt
      → new.base ≡ record old.base { spare = new.base.spare }
      → (name : DiskName) → store_disk name new ≡ store_disk name (with_spare old new.base.spare)
  only_spare old new second active flt base ConfDisk =
      ap (λ (b : StoreBaseOf D M). b.conf.disk) base
  only_spare old new second active flt base SlotA = ap (λ (b : StoreBaseOf D M). b.slot_a) base
  only_spare old new second active flt base SlotB = ap (λ (b : StoreBaseOf D M). b.slot_b) base
  only_spare old new second active flt base Flt = ap (λ (j : JournalOf D). j.disk) flt
  only_spare old new second active flt base ErrA =
      ap (λ (s : Bool). of_two s new.logs.active.disk new.base.spare) second
      ∙ ap (λ (j : JournalOf D). of_two old.logs.second j.disk new.base.spare) active
  only_spare old new second active flt base ErrB =
      ap (λ (s : Bool). of_two s new.base.spare new.logs.active.disk) second
      ∙ ap (λ (j : JournalOf D). of_two old.logs.second new.base.spare j.disk) active

  -- all other disks are the same
  others_of_spare : (second : Bool) (old : StoreOf D M) (made : D) → old.logs.second ≡ second
      → (other : DiskName) → other ≢ name_of_two (not second)
      → store_disk other (with_spare old made) ≡ store_disk other old
  others_of_spare second old made is ConfDisk differs = refl
  others_of_spare second old made is SlotA differs = refl
  others_of_spare second old made is SlotB differs = refl
  others_of_spare second old made is Flt differs = refl
  others_of_spare true old made is ErrA differs = absurd (differs refl)
  others_of_spare true old made is ErrB differs =
      ap (λ (s : Bool). of_two s made old.logs.active.disk) is
      ∙ sym (ap (λ (s : Bool). of_two s old.base.spare old.logs.active.disk) is)
  others_of_spare false old made is ErrA differs =
      ap (λ (s : Bool). of_two s old.logs.active.disk made) is
      ∙ sym (ap (λ (s : Bool). of_two s old.logs.active.disk old.base.spare) is)
  others_of_spare false old made is ErrB differs = absurd (differs refl)

  -- nothing was written
  pub rotation_refused : OnlyNow g → (fresh : List ModuleState) (store : StoreOf D M)
      (k : StoreBook) (fault : StoreFault) → StoreStandsFor g fresh store k
      → RotatesOnBook g fresh store store k (Err fault)
  rotation_refused only_now fresh store k fault st = record {
    stands = tt;
    made = store.base.spare;
    any_moment = spare_moments g fresh store k store.base.spare st
        (leaves-still g only_now store.base.spare Anything (λ c there. tt));
    any_later = slot_still g only_now fresh store store store.base.spare k st refl;
    left = store_reads g fresh store k st;
  }

  -- the spare disk failed
  pub rotation_spoilt : OnlyNow g → CountsNow g → (fresh : List ModuleState)
      (old new : StoreOf D M) (k : StoreBook) (fault : StoreFault) (name : DiskName)
      (failures : ℕ) → StoreStandsFor g fresh old k → new.logs.second ≡ old.logs.second
      → new.logs.active ≡ old.logs.active → new.logs.flt ≡ old.logs.flt
      → SpareFails g old new name failures → RotatesOnBook g fresh old new k (Err fault)
  rotation_spoilt only_now counts fresh old new k fault name failures st second active flt fails =
      let moments = spare_moments g fresh old k new.base.spare st fails.spoilt.any_moment in
      record {
        stands = tt;
        made = new.base.spare;
        any_moment = moments;
        any_later = slot_still g only_now fresh old new new.base.spare k st
            (ap (λ (b : StoreBaseOf D M). next_slot b old.base.newest) fails.base_is);
        left = each_same new (with_spare old new.base.spare) (ReadsLike fresh k)
            (only_spare old new second active flt fails.base_is)
            (left_now g counts (name_of_two (not old.logs.second)) old
            (with_spare old new.base.spare) (ReadsLike fresh k) moments
            (others_of_spare old.logs.second old new.base.spare refl));
      }

module _ {D M : Type 0} (g : Ghosts D) (m : ModuleGhosts M) (fresh : List ModuleState)
    (old : StoreOf D M) (k : StoreBook) (hands : List (HandOf M)) (frame : SlotOf)
    (st : StoreStandsFor g fresh old k) (done : HandsAreDone m k.book hands)
    (at : AreAtEnd old.logs) (holds : AreLawful m hands)
    (next : IsNextFrame old (not old.logs.second) (saves_of m hands) frame) where
  loaded : AreLoaded fresh (saves_of m hands) (at_end k).book.modules
  loaded = hands_load m k fresh old.base.states hands st.loaded done holds

  ended : is_done k.book ≡ true
  ended = done_at_end g fresh old k st at

  -- while the slot is written, the journal is there
  moments : (journal : JournalOf D) (made : D) (new : StoreOf D M) → Keeps g journal []
      → journal.first ≡ next_entry old.logs → made ≡ journal.disk
      → LeavesOnly g (next_slot old.base old.base.newest) (next_slot new.base old.base.newest)
      (IsOldOrReplaced (g.images (next_slot old.base old.base.newest)) frame)
      → MomentsOn g (slot_name (fills_second old.base.newest)) (with_spare old made) new
      (ReadsLike fresh k)
  moments journal made new keeps first is leaves =
      slot_moments g fresh old new made k (not old.logs.second) (saves_of m hands) frame st next
      loaded (lawful_at_end k st.lawful st.know ended) ended
      (begun_ends g fresh old k journal made st keeps first is) leaves

  -- the slot's disk failed
  pub rotation_failed : CountsNow g → (new : StoreOf D M) (fault : StoreFault) (name : DiskName)
      (failures : ℕ) → new.logs.second ≡ old.logs.second → new.logs.active ≡ old.logs.active
      → new.logs.flt ≡ old.logs.flt → SlotFails g old new frame name failures
      → RotatesOnBook g fresh old new k (Err fault)
  rotation_failed counts new fault name failures second active flt fails =
      let later = moments fails.journal new.base.spare new
      (fails.begun.keeps st.spare_told.0 st.spare_told.1) fails.first_is fails.disk_is
      fails.fails.leaves in record {
        stands = tt;
        made = new.base.spare;
        any_moment = spare_moments g fresh old k new.base.spare st
            (subst (λ (d : D). LeavesOnly g old.base.spare d Anything) (sym fails.disk_is)
            fails.begun.any_moment);
        any_later = later;
        left = left_now g counts (slot_name (fills_second old.base.newest))
            (with_spare old new.base.spare) new (ReadsLike fresh k) later
            (others_of_slot g (fills_second old.base.newest) (with_spare old new.base.spare) new
            second active flt (ap (λ (b : StoreBaseOf D M). b.conf) fails.base_is) refl
            fails.kept_same);
      }

  -- the journal is changed, and the base moved
  pub rotation_done : (mid new : StoreOf D M) (number : ℕ) → ChangesJournal g old mid frame
      → PutsAtEnd mid new (saves_of m hands)
      → new.logs ≡ record mid.logs { base = next_entry mid.logs; entries = [] }
      → RotatesOnBook g fresh old new k (Ok number)
  rotation_done mid new number change puts moved = record {
    stands = subst (StoreStandsFor g fresh new) (sym (store_based_is k ended)) stands;
    made = mid.logs.active.disk;
    any_moment = spare_moments g fresh old k mid.logs.active.disk st change.begun.any_moment;
    any_later = moments mid.logs.active mid.logs.active.disk new keeps first refl
        (subst (λ (d : D). LeavesOnly g (next_slot old.base old.base.newest) d
        (IsOldOrReplaced (g.images (next_slot old.base old.base.newest)) frame))
        (sym (ap (λ (b : StoreBaseOf D M). next_slot b old.base.newest) puts.base_is))
        change.fills.leaves);
    left = λ c left. like_through fresh (at_end k) k c refl (end_alike k st.lawful ended)
        (store_reads g fresh new (at_end k) stands c left);
  }
    where
      keeps : Keeps g mid.logs.active []
      keeps = change.begun.keeps st.spare_told.0 st.spare_told.1

      first : mid.logs.active.first ≡ next_entry old.logs
      first = ap (λ (j : JournalOf D). j.first) change.journal_is

      ends : new.logs ≡ record old.logs {
        active = mid.logs.active;
        second = not old.logs.second;
        base = next_entry old.logs;
        entries = [];
      }
      ends = moved
          ∙ ap (λ (l : LogsOf D). record l { base = next_entry l; entries = [] }) change.logs_are

      told : (bytes : List ℕ) × (g.seen new.base.spare ≡ Some bytes)
      told = (
        st.keep.entries_keep.told.0,
        ap g.seen (ap (λ (b : StoreBaseOf D M). b.spare) puts.base_is
            ∙ ap (λ (b : StoreBaseOf D M). b.spare) change.base_is)
            ∙ st.keep.entries_keep.told.1,
      )

      writes : WritesSlot old mid
      writes = record {
        base_is = change.base_is ∙ ap (λ (d : D). record old.base {
          spare = d;
          slot_a = mid.base.slot_a;
          slot_b = mid.base.slot_b;
        }) (sym (ap (λ (b : StoreBaseOf D M). b.spare) change.base_is));
        kept_same = change.kept_same;
      }

      stands : StoreStandsFor g fresh new (at_end k)
      stands =
          moved_stands g fresh old k (not old.logs.second) (saves_of m hands) frame new.logs
          new.base [] st next loaded ended
          (subst (λ (l : LogsOf D). LogsKeep g l [] k.book.records) (sym ends)
          (begun_keeps g old.logs mid.logs.active st.older k.book.records st.keep keeps first))
          (record {
            base_is = ap (λ (l : LogsOf D). l.base) ends;
            none_left = ap (λ (l : LogsOf D). l.entries) ends;
            cursors_same = ap (λ (l : LogsOf D). l.cursors) ends;
            second_is = ap (λ (l : LogsOf D). l.second) ends;
          })
          (moves_base g old mid new (saves_of m hands) frame writes
          (ap (λ (l : LogsOf D). l.entries) change.logs_are) puts change.fills.opened told)

  -- the store is closed, as one of the two disks failed
  pub rotation_closed : OnlyNow g → CountsNow g → (mid logs : LogsOf D) (base : StoreBaseOf D M)
      (fault : StoreFault) (name : DiskName) (failures : ℕ) (closed : Option (DiskName × ℕ))
      → mid ≡ old.logs → logs ≡ record mid { closed = closed }
      → SpareFails g old (store_of mid base) name failures
      ⊎ SlotFails g old (store_of mid base) frame name failures
      → RotatesOnBook g fresh old (store_of logs base) k (Err fault)
  rotation_closed only_now counts mid logs base fault name failures closed same closes (inl fails) =
      rotation_spoilt g only_now counts fresh old (store_of logs base) k fault name failures st
      (ap (λ (l : LogsOf D). l.second) closes ∙ ap (λ (l : LogsOf D). l.second) same)
      (ap (λ (l : LogsOf D). l.active) closes ∙ ap (λ (l : LogsOf D). l.active) same)
      (ap (λ (l : LogsOf D). l.flt) closes ∙ ap (λ (l : LogsOf D). l.flt) same) (record {
        base_is = fails.base_is;
        name_is = fails.name_is;
        failures_are = fails.failures_are;
        spoilt = fails.spoilt;
      })
  rotation_closed only_now counts mid logs base fault name failures closed same closes (inr fails) =
      rotation_failed counts (store_of logs base) fault name failures
      (ap (λ (l : LogsOf D). l.second) closes ∙ ap (λ (l : LogsOf D). l.second) same)
      (ap (λ (l : LogsOf D). l.active) closes ∙ ap (λ (l : LogsOf D). l.active) same)
      (ap (λ (l : LogsOf D). l.flt) closes ∙ ap (λ (l : LogsOf D). l.flt) same) (record {
        base_is = fails.base_is;
        kept_same = fails.kept_same;
        journal = fails.journal;
        disk_is = fails.disk_is;
        first_is = fails.first_is;
        begun = fails.begun;
        name_is = fails.name_is;
        failures_are = fails.failures_are;
        fails = fails.fails;
      })
