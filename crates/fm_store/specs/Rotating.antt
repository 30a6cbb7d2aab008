-- What a rotation does: a new journal of entries, and a slot that names it.
use Rattle.std.specs.Prelude.{◌≡◌, ◌⊎◌, ℕ, ◌+◌, ◌<◌, ◌≤◌, ◌^◌, List, [], length, not}
use Rattle.std.specs.Prelude.{Some, None, Result, Ok, Err, OnOk}
use Rattle.std.specs.declared.option.Option.{Option}
use Rattle.fm_outer.specs.Failures.{Rose}
use Rattle.fm_outer.specs.Moments.{LeavesOnly}
use Rattle.fm_outer.specs.declared.disk.Disk.{Ghosts}
use Rattle.fm_core.specs.Book.{ModuleState}
use Rattle.fm_journal.specs.JournalOf.{JournalOf, blank_journal}
use Rattle.fm_journal.specs.Keeps.{Keeps}
use Rattle.fm_journal.specs.declared.fault.FullKind.TheVariants.{Numbers}
use Rattle.fm_saved.specs.Checkpoints.{checkpoint_bytes}
use Rattle.fm_slots.specs.Format.{SlotOf}
use Rattle.fm_logs.specs.LogsOf.{name_of_two}
use Rattle.fm_logs.specs.StoreBook.{StoreBook}
use Rattle.fm_logs.specs.declared.disks.DiskName.{DiskName}
use Rattle.fm_logs.specs.declared.fault.StoreFault.{StoreFault}
use Rattle.fm_logs.specs.declared.fault.StoreFault.TheVariants.{Disk, Full}
use Rattle.fm_store.specs.StoreOf.{StoreOf, StoreStandsFor, fills_second, newest_sequence}
use Rattle.fm_store.specs.StoreLeft.{MomentsOn, EachLeft, ReadsLike, store_based}
use Rattle.fm_looks.specs.Opening.{slot_name}
use Rattle.fm_store.specs.StoreCalls.{PutsBase, ClosesAtSlot, NextRefused, checkpoint_at}
use Rattle.fm_store.specs.StoreCalls.{next_entry}
use Rattle.fm_store.specs.Slots.{next_slot, kept_slot, FillsSlot, FailsSlot}

-- anything
abbrev pub Anything : List ℕ → Type 0
Anything bytes = Unit {0}

-- A journal without payloads was made of the disk. Until it is there a crash may leave anything.
pub record IsBegun {D : Type 0} (g : Ghosts D) (disk : D) (journal : JournalOf D) : Type 0 where
  pub keeps : (bytes : List ℕ) → g.seen disk ≡ Some bytes → Keeps g journal []
  pub any_moment : LeavesOnly g disk journal.disk Anything
  pub same_disk : g.name journal.disk ≡ g.name disk
  pub no_failure : g.failures journal.disk ≡ g.failures disk

-- It failed, and what the disk holds may be anything.
pub record IsSpoilt {D : Type 0} (g : Ghosts D) (disk made : D) : Type 0 where
  pub any_moment : LeavesOnly g disk made Anything
  pub same_disk : g.name made ≡ g.name disk
  pub rose : Rose (g.failures disk) (g.failures made)

abbrev pub BeginsJournal : {D E : Type 0} → Ghosts D → Option D → Option D → ℕ
    → Result (JournalOf D) E → Type 0
BeginsJournal {D = D} g old new first (Ok journal) =
    (new ≡ None) × (journal ≡ blank_journal journal.disk first)
    × ((disk : D) → old ≡ Some disk → IsBegun g disk journal)
BeginsJournal {D = D} g old new first (Err failed) =
    (made : D) × (new ≡ Some made) × ((disk : D) → old ≡ Some disk → IsSpoilt g disk made)

-- the new journal is the active one, the one before is spare, and the slot that names it is written
pub record ChangesJournal {D M : Type 0} (g : Ghosts D) (old new : StoreOf D M) (frame : SlotOf)
    : Type 0 where
  pub journal_is : new.logs.active ≡ blank_journal new.logs.active.disk (next_entry old.logs)
  pub begun : IsBegun g old.base.spare new.logs.active
  pub logs_are : new.logs ≡ record old.logs {
    active = new.logs.active;
    second = not old.logs.second;
  }
  pub base_is : new.base ≡ record old.base {
    spare = old.logs.active.disk;
    slot_a = new.base.slot_a;
    slot_b = new.base.slot_b;
  }
  pub kept_same : kept_slot new.base old.base.newest ≡ kept_slot old.base old.base.newest
  pub fills : FillsSlot g (next_slot old.base old.base.newest)
      (next_slot new.base old.base.newest) frame

-- The spare disk failed: its name and its count. All else is as before.
pub record SpareFails {D M : Type 0} (g : Ghosts D) (old new : StoreOf D M) (name : DiskName)
    (failures : ℕ) : Type 0 where
  pub base_is : new.base ≡ record old.base { spare = new.base.spare }
  pub name_is : name ≡ name_of_two (not old.logs.second)
  pub failures_are : failures ≡ g.failures new.base.spare
  pub spoilt : IsSpoilt g old.base.spare new.base.spare

-- Or the slot's disk failed, once the journal was there.
pub record SlotFails {D M : Type 0} (g : Ghosts D) (old new : StoreOf D M) (frame : SlotOf)
    (name : DiskName) (failures : ℕ) : Type 0 where
  pub base_is : new.base ≡ record old.base {
    spare = new.base.spare;
    slot_a = new.base.slot_a;
    slot_b = new.base.slot_b;
  }
  pub kept_same : kept_slot new.base old.base.newest ≡ kept_slot old.base old.base.newest
  pub journal : JournalOf D
  pub disk_is : new.base.spare ≡ journal.disk
  pub first_is : journal.first ≡ next_entry old.logs
  pub begun : IsBegun g old.base.spare journal
  pub name_is : name ≡ slot_name (fills_second old.base.newest)
  pub failures_are : failures ≡ g.failures (next_slot new.base old.base.newest)
  pub fails : FailsSlot g (next_slot old.base old.base.newest)
      (next_slot new.base old.base.newest) frame

abbrev pub ChangeDoes : {D M : Type 0} → Ghosts D → StoreOf D M → StoreOf D M → SlotOf
    → Result Unit (DiskName × ℕ) → Type 0
ChangeDoes g old new frame (Ok done) = ChangesJournal g old new frame
ChangeDoes g old new frame (Err failed) =
    (new.logs ≡ old.logs)
    × (SpareFails g old new failed.0 failed.1 ⊎ SlotFails g old new frame failed.0 failed.1)

-- A rotation was made: the new base is in force, and the active journal is another one, on the disk
-- that was spare, without payloads and with the next entry's number. No disk failed.
pub record Rotates {D M : Type 0} (g : Ghosts D) (old new : StoreOf D M)
    (states : List (List ℕ)) (number : ℕ) : Type 0 where
  pub puts : PutsBase g old new states
  pub number_is : number ≡ next_entry old.logs
  pub number_fits : number < 2 ^ 46
  pub short : length (checkpoint_bytes (checkpoint_at old (not old.logs.second) states)) ≤ 2 ^ 28
  pub journal_is : new.logs.active ≡ blank_journal new.logs.active.disk number
  pub spare_is : new.base.spare ≡ old.logs.active.disk
  pub spare_quiet : g.failures new.logs.active.disk ≡ g.failures old.base.spare
  pub logs_are : new.logs ≡ record old.logs {
    active = new.logs.active;
    second = not old.logs.second;
    base = number;
    entries = [];
  }

-- the store was closed, as the spare disk failed: its name and its count are kept
pub record ClosesAtSpare {D M : Type 0} (g : Ghosts D) (old new : StoreOf D M) : Type 0 where
  pub base_is : new.base ≡ record old.base { spare = new.base.spare }
  pub logs_are : new.logs ≡ record old.logs {
    closed = Some (name_of_two (not old.logs.second), g.failures new.base.spare);
  }
  pub rose : Rose (g.failures old.base.spare) (g.failures new.base.spare)

-- Why no rotation was made. Closed; then Full: no journal begins at 2^46, there is no next
-- sequence, or the states are too long; and then a failure of the spare disk or of the slot's.
abbrev pub RotateRefused : {D M : Type 0} → Ghosts D → StoreOf D M → StoreOf D M → List (List ℕ)
    → StoreFault → Type 0
RotateRefused g old new states Disk =
    (old.logs.closed ≡ None) × (next_entry old.logs < 2 ^ 46)
    × (newest_sequence old.base.newest + 1 < 2 ^ 62)
    × (length (checkpoint_bytes (checkpoint_at old (not old.logs.second) states)) ≤ 2 ^ 28)
    × (ClosesAtSpare g old new ⊎ ClosesAtSlot g old new)
RotateRefused g old new states (Full kind) =
    (new ≡ old)
    × (((old.logs.closed ≡ None) × (kind ≡ Numbers) × (2 ^ 46 ≤ next_entry old.logs))
    ⊎ ((next_entry old.logs < 2 ^ 46) × NextRefused old (not old.logs.second) states (Full kind)))
RotateRefused g old new states fault =
    (new ≡ old) × NextRefused old (not old.logs.second) states fault

abbrev pub RotateDoes : {D M : Type 0} → Ghosts D → StoreOf D M → StoreOf D M → List (List ℕ)
    → Result ℕ StoreFault → Type 0
RotateDoes g old new states (Ok number) = Rotates g old new states number
RotateDoes g old new states (Err fault) = RotateRefused g old new states fault

-- the same with this as the spare disk
abbrev pub with_spare : {D M : Type 0} → StoreOf D M → D → StoreOf D M
with_spare store disk = record store { base = record store.base { spare = disk } }

-- What `rotate` makes of a book that all hands have come to the end of: after Ok the store stands
-- for it with a new base. Each crash, now or at a moment since, leaves contents that read like the
-- book: first while the spare disk alone is worked on, which is `made` then, and then while the
-- slot alone is.
pub record RotatesOnBook {D M : Type 0} (g : Ghosts D) (fresh : List ModuleState)
    (old new : StoreOf D M) (k : StoreBook) (result : Result ℕ StoreFault) : Type 0 where
  pub stands : OnOk result (StoreStandsFor g fresh new (store_based k))
  pub made : D
  pub any_moment : MomentsOn g (name_of_two (not old.logs.second)) old (with_spare old made)
      (ReadsLike fresh k)
  pub any_later : MomentsOn g (slot_name (fills_second old.base.newest)) (with_spare old made) new
      (ReadsLike fresh k)
  pub left : EachLeft g new (ReadsLike fresh k)
