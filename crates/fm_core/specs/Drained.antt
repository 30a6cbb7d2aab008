-- What a book comes to once every module has taken every entry.
use Rattle.std.specs.Prelude.{◌≡◌, ℕ, List, ◌++◌, map, slice_get, Some}
use Rattle.fm_entry.specs.declared.entry.Entry.{Entry}
use Rattle.fm_entry.specs.declared.spoken.Spoken.{Spoken}
use Rattle.fm_core.specs.Meaning.{State}
use Rattle.fm_core.specs.Folds.{state_along, words_along}
use Rattle.fm_core.specs.Records.{of_module, numbered_before}
use Rattle.fm_core.specs.Book.{Book, ModuleState, next_number, state_at, IsLawful, Move, run}
use Rattle.fm_core.specs.Book.{accepts_of, with_entries, floored, greatest_of}

-- a module at the end: its state, and all that it ever said
pub record Ended : Type 0 where
  pub state : State
  pub words : List Spoken

-- the state is the fold of all entries; the words are the records before the base, and those of the
-- fold
abbrev pub ended : Book → ModuleState → Ended
ended k p =
    record {
      state = state_along p.meaning p.state k.base k.entries;
      words = of_module p.meaning.own (numbered_before k.base k.records)
          ++ words_along p.meaning p.state k.base k.entries;
    }

-- a drained book: the number of entries ever, their greatest moment, and each module at the end
pub record Drained : Type 0 where
  pub count : ℕ
  pub moment : ℕ
  pub modules : List Ended

abbrev pub drained : Book → Drained
drained k =
    record {
      count = next_number k;
      moment = greatest_of k;
      modules = map (ended k) k.modules;
    }

-- A book with each module at its floor, as a book is that is read again: it is lawful where the
-- book is, and drains to the same, also after more entries.
pub record AtFloors (k : Book) : Type 0 where
  pub lawful : IsLawful (floored k)
  pub drains : (es : List Entry)
      → drained (with_entries (floored k) es) ≡ drained (with_entries k es)

-- Any list of moves, in whatever order the modules are worked, from a lawful book. It stays lawful.
-- It drains to what the book drains to that only accepts the entries, also after more entries.
-- Where the cursor of a module is at the end, its state and its records are those of that drained
-- book.
pub record AnyOrder (k : Book) (ms : List Move) : Type 0 where
  pub lawful : IsLawful (run k ms)
  pub drains : drained (run k ms) ≡ drained (with_entries k (accepts_of ms))
  pub drains_with : (es : List Entry)
      → drained (with_entries (run k ms) es) ≡ drained (with_entries k (accepts_of ms ++ es))
  pub ends : (i : ℕ) (p : ModuleState) → slice_get (run k ms).modules i ≡ Some p
      → slice_get (run k ms).cursors i ≡ Some (next_number (run k ms))
      → slice_get (drained (with_entries k (accepts_of ms))).modules i
      ≡ Some (record {
        state = state_at (run k ms) p (next_number (run k ms));
        words =
            of_module i (run k ms).records;
      })
