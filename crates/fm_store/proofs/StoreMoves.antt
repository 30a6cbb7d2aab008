-- A checkpoint and a rotation move a store to a new base.
use Rattle.std.proofs.Common.{◌≡◌, ◌≢◌, ℕ, ◌+◌, List, [], ◌++◌}
use Rattle.std.proofs.Common.{Bool, true, false, Some}
use Rattle.std.proofs.Common.{refl, sym, ◌∙◌, ap, subst, arith, length-append}
use Rattle.std.proofs.Common.{append-nil, ◌==◌}
use Rattle.std.specs.List.{list_all}
use Rattle.std.proofs.lemmas.List.Elements.{recursion_from_All}
use Rattle.fm_core.specs.Book.{Book, ModuleState, is_done, next_number}
use Rattle.fm_core.specs.Folds.{state_along}
use Rattle.fm_core.specs.Hands.{HandOf, shown}
use Rattle.fm_core.specs.Seen.{Follows}
use Rattle.fm_core.specs.declared.module.Module.{Ghosts as ModuleGhosts}
use Rattle.fm_core.proofs.Places.{taken_all}
use Rattle.fm_entry.specs.declared.entry.Entry.{Entry}
use Rattle.fm_entry.specs.declared.spoken.Spoken.{Spoken}
use Rattle.fm_journal.specs.JournalOf.{JournalOf}
use Rattle.fm_journal.specs.Keeps.{Keeps}
use Rattle.fm_outer.specs.declared.disk.Disk.{Ghosts}
use Rattle.fm_slots.specs.Format.{SlotOf, IsOpenSlot}
use Rattle.fm_logs.specs.Contents.{Contents, active_of_two}
use Rattle.fm_logs.specs.LogsOf.{LogsOf, LogsKeep}
use Rattle.fm_payloads.specs.Spelling.{EachSpells}
use Rattle.fm_logs.specs.ReadsAsBook.{AreLoaded, SpellsEntry, IsLog}
use Rattle.fm_logs.specs.StoreBook.{StoreBook}
use Rattle.fm_logs.specs.declared.disks.DiskName.{DiskName}
use Rattle.fm_logs.specs.declared.disks.DiskName.TheVariants.{Conf as ConfDisk, ErrA, ErrB, SlotA}
use Rattle.fm_logs.specs.declared.disks.DiskName.TheVariants.{SlotB, Flt}
use Rattle.fm_store.specs.StoreOf.{StoreOf, StoreBaseOf, StoreStandsFor, SlotsSay, fills_second}
use Rattle.fm_store.specs.StoreOf.{newest_sequence, greatest_at, force_at, of_two}
use Rattle.fm_store.specs.StoreLeft.{store_disk, OthersAreLeft}
use Rattle.fm_looks.specs.Opening.{slot_name}
use Rattle.fm_store.specs.Slots.{next_slot, kept_slot}
use Rattle.fm_store.specs.StoreLimits.{store_of}
use Rattle.fm_store.specs.StoreCalls.{IsNextFrame, AreAtEnd, AreLawful, HandsAreDone, saves_of}
use Rattle.fm_store.specs.StoreCalls.{next_entry}
use Rattle.fm_store.proofs.Based.{at_end, lawful_at_end, know_at_end, IsAtEndOf, loaded_at_end}
use Rattle.fm_store.proofs.StoreBases.{slots_at_end, base_at_end, moment_at_end, force_at_end}
use Rattle.fm_store.proofs.StoreBases.{EndsThere, err_a_no_slot, err_b_no_slot}
use Rattle.fm_store.proofs.StoreReads.{left_active, entries_left}

-- where all cursors of the logs are at the end, the book is done
pub done_at_end : {D M : Type 0} (g : Ghosts D) (fresh : List ModuleState) (store : StoreOf D M)
    (k : StoreBook) → StoreStandsFor g fresh store k → AreAtEnd store.logs → is_done k.book ≡ true
done_at_end g fresh store k st at =
    ap (λ (n : ℕ). list_all (λ c. c == n) k.book.cursors) (sym (base_at_end g fresh store k st))
    ∙ ap (λ (cs : List ℕ). list_all (λ c. c == next_entry store.logs) cs) (sym st.cursors_are)
    ∙ at

module _ {M : Type 0} (m : ModuleGhosts M) where
  hand_at_end : (k : Book) (h : HandOf M) (p : ModuleState) (i : ℕ) → Follows k i p (shown m h)
      → h.cursor ≡ next_number k → IsAtEndOf m k h p
  hand_at_end k h p i follows at = record {
    meaning_is = follows.meaning_is;
    state_is = follows.folds ∙ ap (λ (es : List Entry). state_along p.meaning p.state k.base es)
        (taken_all k h.cursor (omega (arith, at)));
  }

  -- the saves of hands that have come to the end load as the modules there
  pub hands_load : (k : StoreBook) (fresh : List ModuleState) (states : List (List ℕ))
      (hands : List (HandOf M)) → AreLoaded fresh states k.book.modules
      → HandsAreDone m k.book hands → AreLawful m hands
      → AreLoaded fresh (saves_of m hands) (at_end k).book.modules
  hands_load k fresh states hands loaded done lawful =
      loaded_at_end m k.book fresh states k.book.modules hands loaded done.as_many
      (λ i h p one other. hand_at_end k.book h p i (done.follow i h one p other)
      (done.at_end i h one))
      (recursion_from_All _ hands lawful)

-- what stands beside the logs says the new base
pub record MovesBase {D M : Type 0} (g : Ghosts D) (old : StoreOf D M) (states : List (List ℕ))
    (frame : SlotOf) (base : StoreBaseOf D M) : Type 0 where
  pub conf_same : base.conf ≡ old.base.conf
  pub newest_is : base.newest
      ≡ Some (fills_second old.base.newest, newest_sequence old.base.newest + 1)
  pub kept_same : kept_slot base old.base.newest ≡ kept_slot old.base old.base.newest
  pub opened : (c : List ℕ) → g.images (next_slot base old.base.newest) c
      → IsOpenSlot c frame.sequence frame.payload
  pub moment_is : base.moment ≡ greatest_at old
  pub force_is : base.in_force ≡ force_at old
  pub states_are : base.states ≡ states
  pub spare_told : (bytes : List ℕ) × (g.seen base.spare ≡ Some bytes)

-- and the logs end there
pub record MovesLogs {D : Type 0} (old : LogsOf D) (second : Bool) (logs : LogsOf D) : Type 0 where
  pub base_is : logs.base ≡ next_entry old
  pub none_left : logs.entries ≡ []
  pub cursors_same : logs.cursors ≡ old.cursors
  pub second_is : logs.second ≡ second

module _ {D : Type 0} (g : Ghosts D) where
  -- the logs keep all entries behind the new base
  pub keeps_behind : (logs : LogsOf D) (older : List Entry) (records : List Spoken)
      → LogsKeep g logs older records
      → LogsKeep g (record logs { base = next_entry logs; entries = [] }) (older ++ logs.entries)
      records
  keeps_behind logs older records keep = record {
    is_open = keep.is_open;
    begins = omega (arith, keep.begins, length-append older logs.entries);
    entry_payloads = keep.entry_payloads;
    entries_keep = keep.entries_keep;
    entries_spelled = subst (λ (es : List Entry). EachSpells SpellsEntry keep.entry_payloads es)
        (sym (append-nil (older ++ logs.entries))) keep.entries_spelled;
    record_payloads = keep.record_payloads;
    records_keep = keep.records_keep;
    records_spelled = keep.records_spelled;
  }

module _ {D M : Type 0} (g : Ghosts D) where
  pub moved_stands : (fresh : List ModuleState) (old : StoreOf D M) (k : StoreBook)
      (second : Bool) (states : List (List ℕ)) (frame : SlotOf) (logs : LogsOf D)
      (base : StoreBaseOf D M) (older : List Entry) → StoreStandsFor g fresh old k
      → IsNextFrame old second states frame → AreLoaded fresh states (at_end k).book.modules
      → is_done k.book ≡ true → LogsKeep g logs older k.book.records
      → MovesLogs old.logs second logs → MovesBase g old states frame base
      → StoreStandsFor g fresh (store_of logs base) (at_end k)
  moved_stands fresh old k second states frame logs base older st next loaded done keep at moves =
      record {
        older = older;
        keep = keep;
        base_is = at.base_is ∙ base_at_end g fresh old k st;
        entries_are = at.none_left;
        cursors_are = at.cursors_same ∙ st.cursors_are;
        conf_payloads = st.conf_payloads;
        confs_keep = subst (λ (j : JournalOf D). Keeps g j st.conf_payloads) (sym moves.conf_same)
            st.confs_keep;
        confs_spelled = st.confs_spelled;
        slots = subst (λ (b : Bool). SlotsSay g fresh b base (at_end k)) (sym at.second_is)
            (slots_at_end g fresh old k second states frame base st next loaded moves.newest_is
            moves.kept_same moves.opened);
        spare_told = moves.spare_told;
        moment_is = moves.moment_is ∙ moment_at_end g fresh old k st;
        force_is = moves.force_is ∙ force_at_end g fresh old k st;
        loaded = subst (λ (ss : List (List ℕ)). AreLoaded fresh ss (at_end k).book.modules)
            (sym moves.states_are) loaded;
        know = know_at_end k st.know;
        lawful = lawful_at_end k st.lawful st.know done;
      }

  -- where all but the slots is the same, and the slot that is kept, only the other slot's disk may
  -- be another
  pub others_of_slot : (f : Bool) (old new : StoreOf D M)
      → new.logs.second ≡ old.logs.second → new.logs.active ≡ old.logs.active
      → new.logs.flt ≡ old.logs.flt → new.base.conf ≡ old.base.conf
      → new.base.spare ≡ old.base.spare
      → of_two f new.base.slot_b new.base.slot_a ≡ of_two f old.base.slot_b old.base.slot_a
      → (other : DiskName) → other ≢ slot_name f → store_disk other new ≡ store_disk other old
  others_of_slot f old new second active flt conf spare kept ConfDisk differs =
      ap (λ (j : JournalOf D). j.disk) conf
  others_of_slot f old new second active flt conf spare kept Flt differs =
      ap (λ (j : JournalOf D). j.disk) flt
  others_of_slot f old new second active flt conf spare kept ErrA differs =
      ap (λ (s : Bool). of_two s new.logs.active.disk new.base.spare) second
      ∙ ap (λ (j : JournalOf D). of_two old.logs.second j.disk new.base.spare) active
      ∙ ap (λ (d : D). of_two old.logs.second old.logs.active.disk d) spare
  others_of_slot f old new second active flt conf spare kept ErrB differs =
      ap (λ (s : Bool). of_two s new.base.spare new.logs.active.disk) second
      ∙ ap (λ (j : JournalOf D). of_two old.logs.second new.base.spare j.disk) active
      ∙ ap (λ (d : D). of_two old.logs.second d old.logs.active.disk) spare
  others_of_slot true old new second active flt conf spare kept SlotA differs = kept
  others_of_slot true old new second active flt conf spare kept SlotB differs =
      absurd (differs refl)
  others_of_slot false old new second active flt conf spare kept SlotA differs =
      absurd (differs refl)
  others_of_slot false old new second active flt conf spare kept SlotB differs = kept

  -- the active journal has all entries behind the new base
  pub active_ends : (fresh : List ModuleState) (store : StoreOf D M) (k : StoreBook)
      → StoreStandsFor g fresh store k → (c : Contents)
      → OthersAreLeft g store (slot_name (fills_second store.base.newest)) c
      → EndsThere store.logs.second k c
  active_ends fresh store k st c others =
      let f = fills_second store.base.newest in
      let log = entries_left g fresh store k (active_of_two store.logs.second c) st
      (left_active g store c (others ErrA (err_a_no_slot f)) (others ErrB (err_b_no_slot f))) in
      record {
        first = store.logs.active.first;
        older = st.older ++ k.book.entries;
        begins = omega (
          arith,
          st.keep.begins,
          st.base_is,
          length-append st.older k.book.entries,
        );
        entries = subst (λ (es : List Entry).
            IsLog SpellsEntry (active_of_two store.logs.second c) store.logs.active.first es)
            (sym (append-nil (st.older ++ k.book.entries))) log;
      }
