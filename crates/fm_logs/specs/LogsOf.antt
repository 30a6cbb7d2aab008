-- The logs of a store, and what taking an entry and committing a step make of them. Nothing of
-- modules is here, so that a lock may hold them.
use Rattle.std.specs.Prelude.{◌≡◌, ◌≢◌, ◌⊎◌, ℕ, ◌+◌, ◌<◌, ◌≤◌, ◌^◌, Bool, List, [], ◌∷◌, ◌++◌}
use Rattle.std.specs.Prelude.{length, slice_get, slice_set, Some, None, Result, Ok, Err}
use Rattle.std.specs.Prelude.{if◌then◌else◌}
use Rattle.std.specs.declared.option.Option.{Option}
use Rattle.fm_outer.specs.Failures.{Rose}
use Rattle.fm_outer.specs.Moments.{LeavesOnly}
use Rattle.fm_outer.specs.declared.disk.Disk.{Ghosts}
use Rattle.fm_entry.specs.Entries.{entry_bytes}
use Rattle.fm_entry.specs.declared.entry.Entry.{Entry}
use Rattle.fm_entry.specs.declared.spoken.Spoken.{Spoken}
use Rattle.fm_journal.specs.Causes.{refusal}
use Rattle.fm_journal.specs.JournalOf.{JournalOf, appended}
use Rattle.fm_journal.specs.Keeps.{Keeps}
use Rattle.fm_journal.specs.declared.fault.FullKind.{FullKind}
use Rattle.fm_journal.specs.declared.fault.FullKind.TheVariants.{Payload}
use Rattle.fm_journal.specs.declared.fault.JournalFault.TheVariants.{Full as JournalIsFull}
use Rattle.fm_payloads.specs.Spelling.{EachSpells}
use Rattle.fm_logs.specs.ReadsAsBook.{IsLog, SpellsEntry, SpellsSpoken}
use Rattle.fm_logs.specs.declared.disks.DiskName.{DiskName}
use Rattle.fm_logs.specs.declared.disks.DiskName.TheVariants.{ErrA, ErrB, Flt}
use Rattle.fm_logs.specs.declared.fault.StoreFault.{StoreFault}
use Rattle.fm_logs.specs.declared.fault.StoreFault.TheVariants.{Disk, Full, Closed}
use Rattle.fm_logs.specs.declared.fault.StoreFault.TheVariants.{NoMemory}
use Rattle.fm_logs.specs.declared.logs.Committed.{Committed}
use Rattle.fm_logs.specs.declared.logs.Committed.TheVariants.{Done, Stale}

-- The active error journal and the fault log, whether the active one is the second, the base, the
-- entries numbered from the base, how far each module has come, and once a writing call met a
-- failure, the disk and its count of failures then.
pub record LogsOf (D : Type 0) : Type 0 where
  pub active : JournalOf D
  pub flt : JournalOf D
  pub second : Bool
  pub base : ℕ
  pub entries : List Entry
  pub cursors : List ℕ
  pub closed : Option (DiskName × ℕ)

-- the name of the active error journal's disk
abbrev pub name_of_two : Bool → DiskName
name_of_two second = if second then ErrB else ErrA

-- the disks of both are the same ones
abbrev pub AreSameLogs : {D : Type 0} → Ghosts D → LogsOf D → LogsOf D → Type 0
AreSameLogs g old new =
    (g.name new.active.disk ≡ g.name old.active.disk) × (g.name new.flt.disk ≡ g.name old.flt.disk)

-- The open logs keep these: the active journal the entries from before the base and those of the
-- logs, and the fault log these records; a read gives them, and so does each image.
pub record LogsKeep {D : Type 0} (g : Ghosts D) (logs : LogsOf D) (older : List Entry)
    (records : List Spoken) : Type 0 where
  pub is_open : logs.closed ≡ None
  pub begins : logs.active.first + length older ≡ logs.base
  pub entry_payloads : List (List ℕ)
  pub entries_keep : Keeps g logs.active entry_payloads
  pub entries_spelled : EachSpells SpellsEntry entry_payloads (older ++ logs.entries)
  pub record_payloads : List (List ℕ)
  pub records_keep : Keeps g logs.flt record_payloads
  pub records_spelled : EachSpells SpellsSpoken record_payloads records

-- why an entry's bytes have no frame
abbrev pub FrameRefused : List ℕ → StoreFault → Type 0
FrameRefused payload (Full kind) = (kind ≡ Payload) × (2 ^ 28 < length payload)
FrameRefused payload NoMemory = Unit {0}
FrameRefused _ _ = ⊥

-- the journal has room for a frame of the payload
abbrev pub CanTake : {D : Type 0} → JournalOf D → List ℕ → Type 0
CanTake journal payload = (length payload ≤ 2 ^ 28) × (refusal journal payload ≡ None)

-- it has none: the payload is too long for a frame, or else the journal is full
abbrev pub CannotTake : {D : Type 0} → JournalOf D → List ℕ → FullKind → Type 0
CannotTake journal payload kind =
    ((kind ≡ Payload) × (2 ^ 28 < length payload))
    ⊎ ((length payload ≤ 2 ^ 28) × (refusal journal payload ≡ Some (JournalIsFull kind)))

-- an entry was taken: it has the next number and stands at the end
pub record TakesEntry {D : Type 0} (g : Ghosts D) (old new : LogsOf D) (e : Entry) (n : ℕ) : Type 0
  where
    pub was_open : old.closed ≡ None
    pub room : CanTake old.active (entry_bytes e)
    pub number_is : n ≡ old.base + length old.entries
    pub few : n < 2 ^ 46
    pub logs_are : new ≡ record old {
      active = appended new.active.disk (entry_bytes e) old.active;
      entries = old.entries ++ e ∷ [];
    }
    pub keeps : (older : List Entry) (records : List Spoken) → LogsKeep g old older records
        → LogsKeep g new older records
    pub no_failure : g.failures new.active.disk ≡ g.failures old.active.disk

-- a disk failed: the logs are closed with its name and its count, and else as they were but for the
-- journal on it
pub record Closes {D : Type 0} (g : Ghosts D) (name : DiskName) (old touched new : LogsOf D)
    (before now : D) : Type 0 where
  pub was_open : old.closed ≡ None
  pub logs_are : new ≡ record touched { closed = Some (name, g.failures now) }
  pub rose : Rose (g.failures before) (g.failures now)

-- Why an entry was not taken. Closed, then Full, and then a failure of the active journal's disk;
-- want of memory alone is free.
abbrev pub AcceptRefused : {D : Type 0} → Ghosts D → LogsOf D → LogsOf D → Entry → StoreFault
    → Type 0
AcceptRefused g old new e (Closed name failures) =
    (new ≡ old) × (old.closed ≡ Some (name, failures))
AcceptRefused g old new e (Full kind) =
    (new ≡ old) × (old.closed ≡ None) × CannotTake old.active (entry_bytes e) kind
AcceptRefused g old new e Disk =
    CanTake old.active (entry_bytes e)
    × Closes g (name_of_two old.second) old (record old { active = new.active }) new
    old.active.disk new.active.disk
AcceptRefused g old new e NoMemory = (new ≡ old) × (old.closed ≡ None)
AcceptRefused _ _ _ _ _ = ⊥

abbrev pub AcceptDoes : {D : Type 0} → Ghosts D → LogsOf D → LogsOf D → Entry → Result ℕ StoreFault
    → Type 0
AcceptDoes g old new e (Ok n) = TakesEntry g old new e n
AcceptDoes g old new e (Err fault) = AcceptRefused g old new e fault

-- a log of these, or with more at the end
abbrev pub IsLogWith : {A : Type 0} → (List ℕ → A → Type 0) → ℕ → List A → List A → List ℕ → Type 0
IsLogWith spells first xs more c = IsLog spells c first xs ⊎ IsLog spells c first (xs ++ more)

-- At each moment of the taking a crash leaves the active journal with the entries of before, or
-- with the entry too; the fault log is not touched.
abbrev pub AcceptLeaves : {D : Type 0} → Ghosts D → LogsOf D → LogsOf D → Entry → Type 0
AcceptLeaves g old new e =
    (older : List Entry) (records : List Spoken) → LogsKeep g old older records
    → LeavesOnly g old.active.disk new.active.disk
    (IsLogWith SpellsEntry old.active.first (older ++ old.entries) (e ∷ []))

-- what a frame spells: nothing where there is none
abbrev pub Frames : Option (List ℕ) → List Spoken → Type 0
Frames None said = said ≡ []
Frames (Some payload) said = (spoken : Spoken) × SpellsSpoken payload spoken × (said ≡ spoken ∷ [])

-- the journal with the frame at its end, if there is one
abbrev pub with_frame : {D : Type 0} → D → Option (List ℕ) → JournalOf D → JournalOf D
with_frame disk None journal = journal
with_frame disk (Some payload) journal = appended disk payload journal

-- there is room for the frame, if there is one
abbrev pub CanTakeFrame : {D : Type 0} → JournalOf D → Option (List ℕ) → Type 0
CanTakeFrame journal None = Unit {0}
CanTakeFrame journal (Some payload) = refusal journal payload ≡ None

-- A step of module i at the number n was committed: its cursor goes on by one, and what was said
-- stands in the fault log, whatever the frame spells.
pub record Commits {D : Type 0} (g : Ghosts D) (old new : LogsOf D) (i n : ℕ)
    (frame : Option (List ℕ)) : Type 0 where
  pub was_open : old.closed ≡ None
  pub room : CanTakeFrame old.flt frame
  pub cursor_is : slice_get old.cursors i ≡ Some n
  pub logs_are : new ≡ record old {
    flt = with_frame new.flt.disk frame old.flt;
    cursors = slice_set old.cursors i (n + 1);
  }
  pub keeps : (older : List Entry) (records said : List Spoken) → Frames frame said
      → LogsKeep g old older records → LogsKeep g new older (records ++ said)
  pub no_failure : g.failures new.flt.disk ≡ g.failures old.flt.disk

-- the cursor is another number, and nothing was done
pub record IsStaleAt {D : Type 0} (old new : LogsOf D) (i n cursor : ℕ) : Type 0 where
  pub was_open : old.closed ≡ None
  pub logs_same : new ≡ old
  pub cursor_is : slice_get old.cursors i ≡ Some cursor
  pub other : n ≢ cursor

-- why what was said is not in the fault log
abbrev pub WordsRefused : {D : Type 0} → Ghosts D → LogsOf D → LogsOf D → Option (List ℕ)
    → StoreFault → Type 0
WordsRefused g old new (Some payload) (Full kind) =
    (new ≡ old) × (old.closed ≡ None) × (refusal old.flt payload ≡ Some (JournalIsFull kind))
WordsRefused g old new (Some payload) Disk =
    (refusal old.flt payload ≡ None)
    × Closes g Flt old (record old { flt = new.flt }) new old.flt.disk new.flt.disk
WordsRefused _ _ _ _ _ = ⊥

-- Why a step was not committed. Closed, then Stale, which is no fault, then Full, and then a
-- failure of the fault log's disk.
abbrev pub CommitRefused : {D : Type 0} → Ghosts D → LogsOf D → LogsOf D → ℕ → ℕ
    → Option (List ℕ) → StoreFault → Type 0
CommitRefused g old new i n frame (Closed name failures) =
    (new ≡ old) × (old.closed ≡ Some (name, failures))
CommitRefused g old new i n frame fault =
    (slice_get old.cursors i ≡ Some n) × WordsRefused g old new frame fault

abbrev pub CommitDoes : {D : Type 0} → Ghosts D → LogsOf D → LogsOf D → ℕ → ℕ → Option (List ℕ)
    → Result Committed StoreFault → Type 0
CommitDoes g old new i n frame (Ok Done) = Commits g old new i n frame
CommitDoes g old new i n frame (Ok (Stale cursor)) = IsStaleAt old new i n cursor
CommitDoes g old new i n frame (Err fault) = CommitRefused g old new i n frame fault

-- At each moment of a commit a crash leaves the fault log of before, or with what was said; the
-- active journal is not touched.
abbrev pub CommitLeaves : {D : Type 0} → Ghosts D → LogsOf D → LogsOf D → Option (List ℕ) → Type 0
CommitLeaves g old new frame =
    (older : List Entry) (records said : List Spoken) → Frames frame said
    → LogsKeep g old older records
    → LeavesOnly g old.flt.disk new.flt.disk (IsLogWith SpellsSpoken old.flt.first records said)
