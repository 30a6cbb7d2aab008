-- What contracts see of a journal, what holds of each, and what its calls make of it.
use Rattle.std.specs.Prelude.{◌≡◌, ℕ, ◌+◌, ◌<◌, ◌≤◌, ◌^◌, List, length, Some, None}
use Rattle.std.specs.declared.option.Option.{Option}
use Rattle.fm_outer.specs.Moments.{IsSettled}
use Rattle.fm_outer.specs.declared.disk.Disk.{Ghosts}

-- A disk, the first number, how many payloads there are, and the place of the closed gate behind
-- them. Once a write or a sync has failed the journal is closed, and `closed` is the disk's count
-- of failures then.
pub record JournalOf (D : Type 0) : Type 0 where
  pub disk : D
  pub first : ℕ
  pub count : ℕ
  pub end : ℕ
  pub closed : Option ℕ

-- a journal of these
abbrev pub journal_of : {D : Type 0} → D → ℕ → ℕ → ℕ → Option ℕ → JournalOf D
journal_of disk first count end closed =
    record { disk = disk; first = first; count = count; end = end; closed = closed }

-- The numbers are within the limits. While the journal is open the gate lies inside the disk, and
-- all of the disk is synced.
pub record IsLawfulJournal {D : Type 0} (g : Ghosts D) (journal : JournalOf D) : Type 0 where
  pub first_fits : journal.first < 2 ^ 46
  pub counted : journal.count < 2 ^ 32
  pub numbered : journal.first + journal.count ≤ 2 ^ 46
  pub sized : journal.end < 2 ^ 40
  pub inside : (bytes : List ℕ) → journal.closed ≡ None → g.seen journal.disk ≡ Some bytes
      → journal.end < length bytes
  pub settled : journal.closed ≡ None → IsSettled g journal.disk

-- a journal without payloads
abbrev pub blank_journal : {D : Type 0} → D → ℕ → JournalOf D
blank_journal disk first = journal_of disk first 0 16 None

-- with this payload at the end of the list
abbrev pub appended : {D : Type 0} → D → List ℕ → JournalOf D → JournalOf D
appended disk payload journal =
    journal_of disk journal.first (journal.count + 1) (journal.end + 5 + length payload) None

-- closed at this count of failures
abbrev pub stopped : {D : Type 0} → D → ℕ → JournalOf D → JournalOf D
stopped disk failures journal = record journal { disk = disk; closed = Some failures }
