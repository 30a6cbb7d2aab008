-- What is read of the logs of a store.
use Rattle.std.specs.Prelude.{◌≡◌, ◌++◌, ℕ, List, None, Some}
use Rattle.std.specs.List.Sorted.{IsPermutation, IsSorted, IsStable}
use Rattle.std.specs.Ordering.{nat_cmp, ordering_then}
use Rattle.std.specs.declared.cmp.Ordering.{Ordering}
use Rattle.fm_outer.specs.Failures.{Rose}
use Rattle.fm_outer.specs.Moments.{OnlyRead}
use Rattle.fm_outer.specs.declared.disk.Disk.{Ghosts}
use Rattle.fm_entry.specs.declared.entry.Entry.{Entry}
use Rattle.fm_entry.specs.declared.spoken.Spoken.{Spoken}
use Rattle.fm_journal.specs.JournalOf.{JournalOf}
use Rattle.fm_journal.specs.Keeps.{Keeps}
use Rattle.fm_logs.specs.LogsOf.{LogsOf, LogsKeep}
use Rattle.fm_payloads.specs.Spelling.{EachSpells}
use Rattle.fm_logs.specs.declared.disks.DiskName.{DiskName}
use Rattle.fm_logs.specs.declared.fault.StoreFault.{StoreFault}
use Rattle.fm_logs.specs.declared.fault.StoreFault.TheVariants.{Disk, Closed, Damaged, NoMemory}

-- records stand by number, and those of one number by module
abbrev pub record_order : Spoken → Spoken → Ordering
record_order one other =
    ordering_then (nat_cmp one.number other.number) (nat_cmp one.module other.module)

-- these are the records of a log in that order; where two are alike in it, they stand as in the log
pub record AreOrdered (log records : List Spoken) : Type 0 where
  pub same : IsPermutation log records
  pub sorted : IsSorted record_order records
  pub stable : IsStable record_order log records

-- Why the values of an open log on this disk were not read. Its disk failed; or a payload spells
-- none, or the disk no longer gives what the journal keeps, which comes only where the journal
-- keeps no payloads that spell values. Want of memory alone is free.
abbrev pub ValuesCause : {D A : Type 0} → Ghosts D → (List ℕ → A → Type 0) → DiskName → JournalOf D
    → JournalOf D → StoreFault → Type 0
ValuesCause g spells name old new Disk = Rose (g.failures old.disk) (g.failures new.disk)
ValuesCause {A = A} g spells name old new (Damaged disk place) =
    (disk ≡ name) × ((payloads : List (List ℕ)) (xs : List A) → Keeps g old payloads
    → EachSpells spells payloads xs → ⊥)
ValuesCause g spells name old new NoMemory = Unit {0}
ValuesCause _ _ _ _ _ _ = ⊥

-- Why a log of a store was not read. The logs are closed; or its disk failed; or it is damaged,
-- which never comes while the logs keep entries and records.
abbrev pub UnreadLog : {D : Type 0} → Ghosts D → DiskName → LogsOf D → LogsOf D → D → D
    → StoreFault → Type 0
UnreadLog g name old new before now (Closed disk failures) =
    (old.closed ≡ Some (disk, failures)) × (new ≡ old)
UnreadLog g name old new before now Disk =
    (old.closed ≡ None) × Rose (g.failures before) (g.failures now)
UnreadLog g name old new before now (Damaged disk place) =
    (old.closed ≡ None) × (disk ≡ name)
    × ((older : List Entry) (records : List Spoken) → LogsKeep g old older records → ⊥)
UnreadLog g name old new before now NoMemory = old.closed ≡ None
UnreadLog _ _ _ _ _ _ _ = ⊥

-- The fault log was read, and nothing else was done.
pub record ReadsSpoken {D : Type 0} (g : Ghosts D) (old new : LogsOf D) : Type 0 where
  pub logs_are : new ≡ record old { flt = record old.flt { disk = new.flt.disk } }
  pub still : OnlyRead g old.flt.disk new.flt.disk
  pub keeps : (older : List Entry) (records : List Spoken) → LogsKeep g old older records
      → LogsKeep g new older records

-- the same of the active error journal
pub record ReadsLogged {D : Type 0} (g : Ghosts D) (old new : LogsOf D) : Type 0 where
  pub logs_are : new ≡ record old { active = record old.active { disk = new.active.disk } }
  pub still : OnlyRead g old.active.disk new.active.disk
  pub keeps : (older : List Entry) (records : List Spoken) → LogsKeep g old older records
      → LogsKeep g new older records

-- these are the records of the fault log, in order
pub record AreSpoken {D : Type 0} (g : Ghosts D) (old new : LogsOf D) (found : List Spoken) : Type 0
  where
    pub was_open : old.closed ≡ None
    pub are : (older : List Entry) (records : List Spoken) → LogsKeep g old older records
        → AreOrdered records found
    pub no_failure : g.failures new.flt.disk ≡ g.failures old.flt.disk

-- these are the entries of the active error journal, also those from before the base
pub record AreLogged {D : Type 0} (g : Ghosts D) (old new : LogsOf D) (found : List Entry) : Type 0
  where
    pub was_open : old.closed ≡ None
    pub are : (older : List Entry) (records : List Spoken) → LogsKeep g old older records
        → found ≡ older ++ old.entries
    pub no_failure : g.failures new.active.disk ≡ g.failures old.active.disk
