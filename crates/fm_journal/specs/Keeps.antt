-- What a journal promises of its list.
use Rattle.std.specs.Prelude.{◌≡◌, ℕ, List, length, Some, None}
use Rattle.std.specs.declared.option.Option.{Option}
use Rattle.fm_outer.specs.declared.disk.Disk.{Ghosts}
use Rattle.fm_journal.specs.Format.{end_of, IsJournal}
use Rattle.fm_journal.specs.JournalOf.{JournalOf}

-- the bytes are told, and they are a journal of these payloads
abbrev pub Holds : Option (List ℕ) → ℕ → List (List ℕ) → Type 0
Holds seen first payloads = (bytes : List ℕ) × (seen ≡ Some bytes) × IsJournal bytes first payloads

-- The journal is open and keeps just these payloads: a read gives them, and so does each image that
-- a crash may leave.
pub record Keeps {D : Type 0} (g : Ghosts D) (journal : JournalOf D) (payloads : List (List ℕ))
    : Type 0 where
  pub is_open : journal.closed ≡ None
  pub counted : journal.count ≡ length payloads
  pub ends : journal.end ≡ end_of payloads
  pub told : Holds (g.seen journal.disk) journal.first payloads
  pub left : (image : List ℕ) → g.images journal.disk image
      → IsJournal image journal.first payloads
