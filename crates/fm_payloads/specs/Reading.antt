-- How far payloads are taken, and why they are not read.
use Rattle.std.specs.Prelude.{◌≡◌, ℕ, ◌+◌, ◌≤◌, List, length, take, slice_get, Some, None}
use Rattle.std.specs.declared.option.Option.{Option}
use Rattle.fm_outer.specs.Failures.{Rose}
use Rattle.fm_outer.specs.declared.disk.Disk.{Ghosts}
use Rattle.fm_journal.specs.Format.{end_of}
use Rattle.fm_journal.specs.JournalOf.{JournalOf}
use Rattle.fm_journal.specs.Keeps.{Keeps}
use Rattle.fm_journal.specs.declared.fault.JournalFault.{JournalFault}
use Rattle.fm_journal.specs.declared.fault.JournalFault.TheVariants.{Damaged}
use Rattle.fm_payloads.specs.declared.fault.ReadingFault.{ReadingFault}
use Rattle.fm_payloads.specs.declared.fault.ReadingFault.TheVariants.{Disk, Changed, NoMemory}

-- the payloads before one were taken, and that one, which stands at this place, is refused
pub record StopsAtPayload {R : Type 0} (took : R → List (List ℕ) → Type 0)
    (refuses : R → List ℕ → Type 0) (payloads : List (List ℕ)) (reader : R) (place : ℕ) : Type 0
  where
    pub count : ℕ
    pub payload : List ℕ
    pub there : slice_get payloads count ≡ Some payload
    pub place_is : place ≡ end_of (take count payloads)
    pub so_far : took reader (take count payloads)
    pub refused : refuses reader payload

-- all payloads were taken, or those before the one at the place
abbrev pub ReadsUpTo : {R : Type 0} → (R → List (List ℕ) → Type 0) → (R → List ℕ → Type 0)
    → List (List ℕ) → R → Option ℕ → Type 0
ReadsUpTo took refuses payloads reader None = took reader payloads
ReadsUpTo took refuses payloads reader (Some place) =
    StopsAtPayload took refuses payloads reader place

-- what a fault of a journal is to who reads its payloads
abbrev pub reading_fault : JournalFault → ReadingFault
reading_fault (Damaged place) = Changed place
reading_fault _ = Disk

-- Why the payloads of a journal were not read. Its disk failed; or the disk no longer gives what
-- the journal keeps, which never comes where the journal keeps any list; or memory was wanted.
abbrev pub ReadingCause : {D : Type 0} → Ghosts D → JournalOf D → JournalOf D → ReadingFault
    → Type 0
ReadingCause g old new Disk = Rose (g.failures old.disk) (g.failures new.disk)
ReadingCause g old new (Changed place) = (payloads : List (List ℕ)) → Keeps g old payloads → ⊥
ReadingCause g old new NoMemory = Unit {0}

-- the same of one payload, whose place is that of one of the list
abbrev pub PayloadCause : {D : Type 0} → Ghosts D → ℕ → JournalOf D → JournalOf D → ReadingFault
    → Type 0
PayloadCause g place old new (Changed at) = (payloads : List (List ℕ)) (k : ℕ)
    → Keeps g old payloads → place ≡ end_of (take k payloads) → ⊥
PayloadCause g place old new fault = ReadingCause g old new fault

-- the payload that stands at a place is in front of the buffer
pub record IsPayloadIn {D : Type 0} (g : Ghosts D) (journal : JournalOf D) (place size : ℕ)
    (buffer : List ℕ) : Type 0 where
  pub room : size ≤ length buffer
  pub within : place + 5 + size ≤ journal.end
  pub there : (payloads : List (List ℕ)) (k : ℕ) → Keeps g journal payloads
      → place ≡ end_of (take k payloads) → slice_get payloads k ≡ Some (take size buffer)
