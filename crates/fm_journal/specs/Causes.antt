-- When each fault may come.
use Rattle.std.specs.Prelude.{◌≡◌, ℕ, ◌+◌, ◌-◌, ◌^◌, ◌==◌, if◌then◌else◌, nat_lt, List, length}
use Rattle.std.specs.Prelude.{take, Some, None}
use Rattle.std.specs.declared.option.Option.{Option}
use Rattle.fm_outer.specs.Failures.{Rose}
use Rattle.fm_outer.specs.declared.disk.Disk.{Ghosts}
use Rattle.fm_journal.specs.Damage.{IsDamagedAt}
use Rattle.fm_journal.specs.JournalOf.{JournalOf, stopped}
use Rattle.fm_journal.specs.Look.{HasNoRecord}
use Rattle.fm_journal.specs.declared.fault.FullKind.TheVariants.{Records, Numbers, Bytes}
use Rattle.fm_journal.specs.declared.fault.JournalFault.{JournalFault}
use Rattle.fm_journal.specs.declared.fault.JournalFault.TheVariants.{Disk, Full, Damaged, Closed}

-- Why a record whose length, payload and closed gate are so many bytes is refused, if it is. A
-- closed journal takes none. An open one has at most 2^32 - 1 records and numbers below 2^46, and
-- no append writes past 2^40 bytes.
abbrev pub refused : Option ℕ → ℕ → ℕ → ℕ → ℕ → Option JournalFault
refused (Some failures) first count end size = Some (Closed failures)
refused None first count end size =
    if count == 2 ^ 32 - 1 then Some (Full Records)
    else if first + count == 2 ^ 46 then Some (Full Numbers)
    else if nat_lt (2 ^ 40) (end + 1 + size) then Some (Full Bytes)
    else None

-- why an append of this payload is refused, if it is
abbrev pub refusal : {D : Type 0} → JournalOf D → List ℕ → Option JournalFault
refusal journal payload =
    refused journal.closed journal.first journal.count journal.end (5 + length payload)

-- Of `append`: where nothing is refused `Disk` alone, and only where the disk's count rose, with
-- the journal closed at that count; and else the refusal, with the journal as it was.
abbrev pub AppendCause : {D : Type 0} → Ghosts D → List ℕ → JournalOf D → JournalOf D
    → JournalFault → Type 0
AppendCause g payload old new Disk =
    (refusal old payload ≡ None) × Rose (g.failures old.disk) (g.failures new.disk)
    × (new ≡ stopped new.disk (g.failures new.disk) old)
AppendCause g payload old new (Damaged place) = ⊥
AppendCause g payload old new fault = (refusal old payload ≡ Some fault) × (new ≡ old)

-- Of `create`: `Disk` alone, and only where the disk's count rose.
abbrev pub CreateCause : ℕ → ℕ → JournalFault → Type 0
CreateCause before now Disk = Rose before now
CreateCause before now fault = ⊥

-- Of `open`: `Disk` only where the disk's count rose, and `Damaged` only where the bytes are no
-- journal, with the place.
abbrev pub OpenCause : Option (List ℕ) → ℕ → ℕ → JournalFault → Type 0
OpenCause seen before now Disk = Rose before now
OpenCause seen before now (Damaged place) =
    (now ≡ before) × ((bytes : List ℕ) → seen ≡ Some bytes → IsDamagedAt bytes place)
OpenCause seen before now fault = ⊥

-- Of a look at the record at a place, before the gate at `end`: `Disk` only where the disk's count
-- rose, and `Damaged` with that place, only where no record with such a payload stands there.
abbrev pub PlaceCause : {D : Type 0} → Ghosts D → (ℕ → Type 0) → ℕ → JournalOf D → ℕ
    → JournalFault → Type 0
PlaceCause g Fits at journal now Disk = Rose (g.failures journal.disk) now
PlaceCause g Fits at journal now (Closed failures) =
    (now ≡ g.failures journal.disk) × (journal.closed ≡ Some failures)
PlaceCause g Fits at journal now (Damaged place) =
    (now ≡ g.failures journal.disk) × (place ≡ at) × ((bytes : List ℕ)
    → g.seen journal.disk ≡ Some bytes → HasNoRecord Fits (take (journal.end + 1) bytes) at)
PlaceCause g Fits at journal now (Full kind) = ⊥
