-- What a checkpoint makes of the book that a store stands for.
use Rattle.std.proofs.Common.{◌≡◌, ℕ, ◌+◌, List, [], ◌++◌, Some}
use Rattle.std.proofs.Common.{true, Ok, Err, refl, sym, ◌∙◌, ap, subst}
use Rattle.fm_core.specs.Book.{ModuleState, greatest_from, is_done}
use Rattle.fm_core.specs.Hands.{HandOf}
use Rattle.fm_core.specs.declared.module.Module.{Ghosts as ModuleGhosts}
use Rattle.fm_entry.specs.declared.entry.Entry.{Entry}
use Rattle.fm_outer.specs.Moments.{LeavesOnly}
use Rattle.fm_outer.specs.declared.disk.Disk.{Ghosts}
use Rattle.fm_outer.proofs.Moments.{CountsNow, OnlyNow}
use Rattle.fm_slots.specs.Filling.{IsOldOrReplaced}
use Rattle.fm_slots.specs.Format.{SlotOf, IsOpenSlot}
use Rattle.fm_logs.specs.LogsOf.{LogsOf, LogsKeep}
use Rattle.fm_logs.specs.ReadsAsBook.{AreLoaded}
use Rattle.fm_logs.specs.StoreBook.{StoreBook, force_along}
use Rattle.fm_logs.specs.declared.fault.StoreFault.{StoreFault}
use Rattle.fm_store.specs.Slots.{next_slot, kept_slot, FillsSlot, FailsSlot}
use Rattle.fm_store.specs.StoreCalls.{AreAtEnd, AreLawful, HandsAreDone, saves_of, IsNextFrame}
use Rattle.fm_store.specs.StoreCalls.{CheckpointsOnBook, next_entry}
use Rattle.fm_store.specs.StoreLeft.{MomentsOn, ReadsLike}
use Rattle.fm_looks.specs.Opening.{slot_name}
use Rattle.fm_store.specs.StoreOf.{StoreOf, StoreBaseOf, StoreStandsFor, fills_second}
use Rattle.fm_store.specs.StoreOf.{newest_sequence, greatest_at, force_at}
use Rattle.fm_store.proofs.Based.{at_end, lawful_at_end, store_based_is}
use Rattle.fm_store.proofs.StoreBases.{slot_moments, slot_still, end_alike}
use Rattle.fm_store.proofs.StoreMoves.{done_at_end, hands_load, moved_stands, keeps_behind}
use Rattle.fm_store.proofs.StoreMoves.{MovesBase, others_of_slot, active_ends}
use Rattle.fm_store.proofs.StoreReads.{store_reads, left_now, like_through}

-- what a write of the slot leaves of the store beside it
pub record WritesSlot {D M : Type 0} (old mid : StoreOf D M) : Type 0 where
  pub base_is : mid.base ≡ record old.base {
    spare = mid.base.spare;
    slot_a = mid.base.slot_a;
    slot_b = mid.base.slot_b;
  }
  pub kept_same : kept_slot mid.base old.base.newest ≡ kept_slot old.base old.base.newest

-- and what the move of the base leaves then
pub record PutsAtEnd {D M : Type 0} (mid new : StoreOf D M) (states : List (List ℕ)) : Type 0 where
  pub base_is : new.base ≡ record mid.base {
    newest = Some (fills_second mid.base.newest, newest_sequence mid.base.newest + 1);
    moment = greatest_at mid;
    in_force = force_at mid;
    states = states;
  }

module _ {D M : Type 0} (g : Ghosts D) where
  -- what is written beside the logs says the new base
  pub moves_base : (old mid new : StoreOf D M) (states : List (List ℕ)) (frame : SlotOf)
      → WritesSlot old mid → mid.logs.entries ≡ old.logs.entries → PutsAtEnd mid new states
      → ((c : List ℕ) → g.images (next_slot mid.base old.base.newest) c
      → IsOpenSlot c frame.sequence frame.payload)
      → (bytes : List ℕ) × (g.seen new.base.spare ≡ Some bytes)
      → MovesBase g old states frame new.base
  moves_base old mid new states frame writes entries puts opened told = record {
    conf_same = ap (λ (b : StoreBaseOf D M). b.conf) puts.base_is
        ∙ ap (λ (b : StoreBaseOf D M). b.conf) writes.base_is;
    newest_is = ap (λ (b : StoreBaseOf D M). b.newest) puts.base_is
        ∙ ap (λ (b : StoreBaseOf D M).
        Some (fills_second b.newest, newest_sequence b.newest + 1)) writes.base_is;
    kept_same = ap (λ (b : StoreBaseOf D M). kept_slot b old.base.newest) puts.base_is
        ∙ writes.kept_same;
    opened = subst (λ (d : D). (c : List ℕ) → g.images d c
        → IsOpenSlot c frame.sequence frame.payload)
        (sym (ap (λ (b : StoreBaseOf D M). next_slot b old.base.newest) puts.base_is)) opened;
    moment_is = ap (λ (b : StoreBaseOf D M). b.moment) puts.base_is
        ∙ ap (λ (b : StoreBaseOf D M). greatest_from b.moment mid.logs.entries) writes.base_is
        ∙ ap (λ (es : List Entry). greatest_from old.base.moment es) entries;
    force_is = ap (λ (b : StoreBaseOf D M). b.in_force) puts.base_is
        ∙ ap (λ (b : StoreBaseOf D M). force_along b.in_force mid.logs.entries) writes.base_is
        ∙ ap (λ (es : List Entry). force_along old.base.in_force es) entries;
    states_are = ap (λ (b : StoreBaseOf D M). b.states) puts.base_is;
    spare_told = told;
  }

  -- nothing was written
  pub refused_on_book : OnlyNow g → (fresh : List ModuleState) (store : StoreOf D M)
      (k : StoreBook) (fault : StoreFault) → StoreStandsFor g fresh store k
      → CheckpointsOnBook g fresh store store k (Err fault)
  refused_on_book only_now fresh store k fault st = record {
    stands = tt;
    any_moment = slot_still g only_now fresh store store store.base.spare k st refl;
    left = store_reads g fresh store k st;
  }

module _ {D M : Type 0} (g : Ghosts D) (m : ModuleGhosts M) (fresh : List ModuleState)
    (old : StoreOf D M) (k : StoreBook) (hands : List (HandOf M)) (frame : SlotOf)
    (st : StoreStandsFor g fresh old k) (done : HandsAreDone m k.book hands)
    (at : AreAtEnd old.logs) (holds : AreLawful m hands)
    (next : IsNextFrame old old.logs.second (saves_of m hands) frame) where
  loaded : AreLoaded fresh (saves_of m hands) (at_end k).book.modules
  loaded = hands_load m k fresh old.base.states hands st.loaded done holds

  ended : is_done k.book ≡ true
  ended = done_at_end g fresh old k st at

  moments : (new : StoreOf D M)
      → LeavesOnly g (next_slot old.base old.base.newest) (next_slot new.base old.base.newest)
      (IsOldOrReplaced (g.images (next_slot old.base old.base.newest)) frame)
      → MomentsOn g (slot_name (fills_second old.base.newest)) old new (ReadsLike fresh k)
  moments new leaves =
      slot_moments g fresh old new old.base.spare k old.logs.second (saves_of m hands) frame st next
      loaded (lawful_at_end k st.lawful st.know ended) ended
      (λ c others. active_ends g fresh old k st c others) leaves

  -- the disk of the slot failed
  pub failed_on_book : CountsNow g → (new : StoreOf D M) (fault : StoreFault)
      → new.base ≡ record old.base { slot_a = new.base.slot_a; slot_b = new.base.slot_b }
      → kept_slot new.base old.base.newest ≡ kept_slot old.base old.base.newest
      → new.logs.second ≡ old.logs.second
      → new.logs.active ≡ old.logs.active → new.logs.flt ≡ old.logs.flt
      → FailsSlot g (next_slot old.base old.base.newest) (next_slot new.base old.base.newest) frame
      → CheckpointsOnBook g fresh old new k (Err fault)
  failed_on_book counts new fault is kept second active flt fails = record {
    stands = tt;
    any_moment = moments new fails.leaves;
    left = left_now g counts (slot_name (fills_second old.base.newest)) old new
        (ReadsLike fresh k) (moments new fails.leaves)
        (others_of_slot g (fills_second old.base.newest) old new second active flt
        (ap (λ (b : StoreBaseOf D M). b.conf) is) (ap (λ (b : StoreBaseOf D M). b.spare) is) kept);
  }

  -- the slot is written, and the base moved
  pub done_on_book : (mid new : StoreOf D M)
      → mid.base ≡ record old.base { slot_a = mid.base.slot_a; slot_b = mid.base.slot_b }
      → kept_slot mid.base old.base.newest ≡ kept_slot old.base old.base.newest
      → mid.logs ≡ old.logs
      → FillsSlot g (next_slot old.base old.base.newest) (next_slot mid.base old.base.newest) frame
      → PutsAtEnd mid new (saves_of m hands)
      → new.logs ≡ record mid.logs { base = next_entry mid.logs; entries = [] }
      → CheckpointsOnBook g fresh old new k (Ok tt)
  done_on_book mid new is kept logs fills puts moved = record {
    stands = subst (StoreStandsFor g fresh new) (sym (store_based_is k ended)) stands;
    any_moment = moments new
        (subst (λ (d : D). LeavesOnly g (next_slot old.base old.base.newest) d
        (IsOldOrReplaced (g.images (next_slot old.base old.base.newest)) frame))
        (sym (ap (λ (b : StoreBaseOf D M). next_slot b old.base.newest) puts.base_is))
        fills.leaves);
    left = λ c left. like_through fresh (at_end k) k c refl (end_alike k st.lawful ended)
        (store_reads g fresh new (at_end k) stands c left);
  }
    where
      ends : new.logs ≡ record old.logs { base = next_entry old.logs; entries = [] }
      ends = moved ∙ ap (λ (l : LogsOf D). record l { base = next_entry l; entries = [] }) logs

      told : (bytes : List ℕ) × (g.seen new.base.spare ≡ Some bytes)
      told = (
        st.spare_told.0,
        ap g.seen (ap (λ (b : StoreBaseOf D M). b.spare) puts.base_is
            ∙ ap (λ (b : StoreBaseOf D M). b.spare) is) ∙ st.spare_told.1,
      )

      writes : WritesSlot old mid
      writes = record {
        base_is = is ∙ ap (λ (d : D). record old.base {
          spare = d;
          slot_a = mid.base.slot_a;
          slot_b = mid.base.slot_b;
        }) (sym (ap (λ (b : StoreBaseOf D M). b.spare) is));
        kept_same = kept;
      }

      stands : StoreStandsFor g fresh new (at_end k)
      stands =
          moved_stands g fresh old k old.logs.second (saves_of m hands) frame new.logs new.base
          (st.older ++ old.logs.entries) st next loaded ended
          (subst (λ (l : LogsOf D).
          LogsKeep g l (st.older ++ old.logs.entries) k.book.records) (sym ends)
          (keeps_behind g old.logs st.older k.book.records st.keep))
          (record {
            base_is = ap (λ (l : LogsOf D). l.base) ends;
            none_left = ap (λ (l : LogsOf D). l.entries) ends;
            cursors_same = ap (λ (l : LogsOf D). l.cursors) ends;
            second_is = ap (λ (l : LogsOf D). l.second) ends;
          })
          (moves_base g old mid new (saves_of m hands) frame writes
          (ap (λ (l : LogsOf D). l.entries) logs) puts fills.opened told)
