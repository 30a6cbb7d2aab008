-- The entries of a store as they are read, and what is kept of them.
use Rattle.std.specs.Prelude.{◌≡◌, ℕ, ◌+◌, ◌-◌, ◌<◌, ◌≤◌, ◌^◌, List, [], ◌∷◌, ◌++◌, All, length}
use Rattle.std.specs.Prelude.{drop, None}
use Rattle.std.specs.Prelude.{Result, Ok, Err}
use Rattle.fm_outer.specs.declared.disk.Disk.{Ghosts}
use Rattle.fm_entry.specs.Entries.{IsSpelled}
use Rattle.fm_entry.specs.declared.entry.Entry.{Entry}
use Rattle.fm_journal.specs.Format.{IsJournal}
use Rattle.fm_journal.specs.JournalOf.{JournalOf}
use Rattle.fm_journal.specs.Keeps.{Keeps}
use Rattle.fm_payloads.specs.Spelling.{EachSpells}
use Rattle.fm_logs.specs.ReadsAsBook.{SpellsEntry}
use Rattle.fm_logs.specs.StoreBook.{force_along}
use Rattle.fm_saved.specs.declared.checkpoint.Checkpoint.{Checkpoint}
use Rattle.fm_looks.specs.Opening.{FitEntries, Good}
use Rattle.fm_looks.specs.declared.entries.EntriesRead.{EntriesRead}
use Rattle.fm_looks.specs.declared.look.LookRefused.{LookRefused}

-- A reader of entries: how many configurations there are, the one in force at the base, how many
-- entries stand before the base, how many of these are still to come, the configuration in force
-- after the entries, and those from the base on.
pub record EntryReaderOf : Type 0 where
  pub known : ℕ
  pub at_base : ℕ
  pub older : ℕ
  pub left : ℕ
  pub force : ℕ
  pub entries : List Entry

abbrev pub reader_of : ℕ → ℕ → ℕ → ℕ → ℕ → List Entry → EntryReaderOf
reader_of known at_base older left force entries = record {
  known = known;
  at_base = at_base;
  older = older;
  left = left;
  force = force;
  entries = entries;
}

-- what holds of each
pub record IsEntryReader (reader : EntryReaderOf) : Type 0 where
  pub spelled : All IsSpelled reader.entries
  pub force_is : reader.force ≡ force_along reader.at_base reader.entries
  pub force_known : reader.force < reader.known

-- the reader has taken the entries that these payloads spell, and keeps those from the base on
pub record HasEntries (reader : EntryReaderOf) (payloads : List (List ℕ)) : Type 0 where
  pub all : List Entry
  pub spelled : EachSpells SpellsEntry payloads all
  pub fit : FitEntries reader.known reader.at_base reader.older all
  pub left_is : reader.left ≡ reader.older - length all
  pub entries_are : reader.entries ≡ drop reader.older all

-- it refuses this payload behind what it has taken
abbrev pub RefusesEntry : EntryReaderOf → List ℕ → Type 0
RefusesEntry reader payload = (payloads : List (List ℕ)) → HasEntries reader payloads
    → Good SpellsEntry (FitEntries reader.known reader.at_base reader.older)
    (payloads ++ payload ∷ []) → ⊥

-- two readers began alike
pub record IsSameStart (one two : EntryReaderOf) : Type 0 where
  pub known : two.known ≡ one.known
  pub at_base : two.at_base ≡ one.at_base
  pub older : two.older ≡ one.older

-- What holds of entries from the base on that were read: the journal is open, and its next number
-- is that of the next entry; and the number now in force is one of so many configurations.
pub record AreEntries {D : Type 0} (known : ℕ) (checkpoint : Checkpoint) (journal : JournalOf D)
    (entries : List Entry) : Type 0 where
  pub is_open : journal.closed ≡ None
  pub numbered : journal.first + journal.count ≡ checkpoint.base + length entries
  pub few : checkpoint.base + length entries ≤ 2 ^ 46
  pub spelled : All IsSpelled entries
  pub force_known : force_along checkpoint.conf entries < known

abbrev pub entries_disk : {D : Type 0} → Result (EntriesRead D) (LookRefused D) → D
entries_disk (Ok read) = read.journal.disk
entries_disk (Err refused) = refused.disk

-- the content is the active journal, which reaches the base; the journal keeps it, and these are
-- the entries from the base on
pub record EntriesKept {D : Type 0} (g : Ghosts D) (c : List ℕ) (known : ℕ)
    (checkpoint : Checkpoint) (journal : JournalOf D) (entries : List Entry) : Type 0 where
  pub payloads : List (List ℕ)
  pub keeps : Keeps g journal payloads
  pub is : IsJournal c journal.first payloads
  pub all : List Entry
  pub spelled : EachSpells SpellsEntry payloads all
  pub begins : journal.first ≤ checkpoint.base
  pub reaches : checkpoint.base ≤ journal.first + length all
  pub fit : FitEntries known checkpoint.conf (checkpoint.base - journal.first) all
  pub entries_are : entries ≡ drop (checkpoint.base - journal.first) all
