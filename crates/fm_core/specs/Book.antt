-- The book: what is known of all modules at one moment, whatever the order in which they were
-- worked.
use Rattle.std.specs.Prelude.{false, ◌≡◌, ℕ, ◌+◌, ◌-◌, ◌<◌, ◌≤◌, max, Bool, ◌&&◌, ◌==◌}
use Rattle.std.specs.Prelude.{nat_le}
use Rattle.std.specs.Prelude.{if◌then◌else◌, List, [], ◌∷◌, ◌++◌, length, map, take, slice_get}
use Rattle.std.specs.Prelude.{slice_set, Option, Some, None}
use Rattle.std.specs.List.{AllByRecursion, list_all}
use Rattle.fm_entry.specs.declared.entry.Entry.{Entry}
use Rattle.fm_entry.specs.declared.spoken.Spoken.{Spoken}
use Rattle.fm_entry.specs.Entries.{moment_of, is_reload, IsSpelled}
use Rattle.fm_core.specs.Meaning.{Meaning, State, says_of}
use Rattle.fm_core.specs.Folds.{state_along, words_along, records_at}
use Rattle.fm_core.specs.Records.{of_module, numbered_from, IsAscending, past_all}

-- a module at the base: its meaning, and its state before the entries of the book
pub record ModuleState : Type 0 where
  pub meaning : Meaning
  pub state : State

-- A book: the number of entries before it, the greatest moment before it, the modules at the base
-- by number, the entries numbered from the base, how far each module has come, and what was said.
pub record Book : Type 0 where
  pub base : ℕ
  pub moment : ℕ
  pub modules : List ModuleState
  pub entries : List Entry
  pub cursors : List ℕ
  pub records : List Spoken

-- the number of entries ever
abbrev pub next_number : Book → ℕ
next_number k = k.base + length k.entries

-- the greatest of a moment and those of the entries
abbrev pub greatest_from : ℕ → List Entry → ℕ
greatest_from t [] = t
greatest_from t (e ∷ es) = greatest_from (max t (moment_of e)) es

-- the greatest moment of all entries ever
abbrev pub greatest_of : Book → ℕ
greatest_of k = greatest_from k.moment k.entries

-- the entries that a module whose cursor is c has taken
abbrev pub taken : Book → ℕ → List Entry
taken k c = take (c - k.base) k.entries

-- the state of a module whose cursor is c
abbrev pub state_at : Book → ModuleState → ℕ → State
state_at k p c = state_along p.meaning p.state k.base (taken k c)

-- Module i stands lawfully: it bears the number i, its cursor lies between the base and the end,
-- its records ascend, and those numbered from the base are just what it says along the entries it
-- has taken.
pub record IsPlaced (k : Book) (i : ℕ) (p : ModuleState) (c : ℕ) : Type 0 where
  pub numbered : p.meaning.own ≡ i
  pub from_base : k.base ≤ c
  pub to_end : c ≤ next_number k
  pub ascending : IsAscending (of_module i k.records)
  pub exact : numbered_from k.base (of_module i k.records)
      ≡ words_along p.meaning p.state k.base (taken k c)

-- the book is lawful: each module has a cursor, each record names a module, and each module is
-- placed
pub record IsLawful (k : Book) : Type 0 where
  pub as_many : length k.cursors ≡ length k.modules
  pub named : AllByRecursion (λ r. r.«module» < length k.modules) k.records
  pub placed : (i : ℕ) (p : ModuleState) (c : ℕ) → slice_get k.modules i ≡ Some p
      → slice_get k.cursors i ≡ Some c → IsPlaced k i p c

-- an entry that can be accepted: it has a spelling, and is no Reload, which needs a list of
-- configurations
pub record IsAdmitted (e : Entry) : Type 0 where
  pub spelled : IsSpelled e
  pub no_reload : is_reload e ≡ false

-- accept: the entry comes at the end
abbrev pub accepted : Book → Entry → Book
accepted k e = record k { entries = k.entries ++ e ∷ [] }

-- work on a module that has an entry to take: it takes it, and what it says comes at the end
abbrev pub worked_on : Book → ℕ → ModuleState → ℕ → Option Entry → Book
worked_on k i p c None = k
worked_on k i p c (Some e) =
    record k {
      cursors = slice_set k.cursors i (c + 1);
      records = k.records ++ records_at p.meaning.own c (says_of p.meaning (state_at k p c) c e);
    }

abbrev pub worked_at : Book → ℕ → Option ModuleState → Option ℕ → Book
worked_at k i (Some p) (Some c) = worked_on k i p c (slice_get k.entries (c - k.base))
worked_at k i (Some p) None = k
worked_at k i None c = k

-- work: module i takes the entry at its cursor; where there is none the book stays as it is
abbrev pub worked : Book → ℕ → Book
worked k i = worked_at k i (slice_get k.modules i) (slice_get k.cursors i)

-- one past the greatest number that module i spoke at, else the base
abbrev pub floor_of : Book → ℕ → ℕ
floor_of k i = past_all k.base (numbered_from k.base (of_module i k.records))

abbrev pub fallen_at : Book → ℕ → ℕ → Option ℕ → Book
fallen_at k i c None = k
fallen_at k i c (Some d) =
    if (nat_le (floor_of k i) c && nat_le c d) then record k { cursors = slice_set k.cursors i c }
    else k

-- fall: the cursor of module i goes back to c, where c is between its floor and its cursor
abbrev pub fallen : Book → ℕ → ℕ → Book
fallen k i c = fallen_at k i c (slice_get k.cursors i)

-- fall of every module to its floor
abbrev pub floored : Book → Book
floored k = record k { cursors = map (λ p. floor_of k p.meaning.own) k.modules }

-- each cursor is at the end
abbrev pub is_done : Book → Bool
is_done k = list_all (λ c. c == next_number k) k.cursors

-- a module at the end of the entries, as the next base has it
abbrev pub rebased : Book → ModuleState → ModuleState
rebased k p = record p { state = state_along p.meaning p.state k.base k.entries }

-- base: where each cursor is at the end, the states there are kept in place of the entries
abbrev pub based : Book → Book
based k =
    if is_done k then record {
      base = next_number k;
      moment = greatest_of k;
      modules = map (rebased k) k.modules;
      entries = [];
      cursors = k.cursors;
      records = k.records;
    } else k

-- the moves of a book
pub data Move : Type 0 where
  Accept : Entry → Move
  Work : ℕ → Move
  Fall : ℕ → ℕ → Move
  Base : Move

-- the book after one move; a move that is not allowed changes nothing
abbrev pub moved : Book → Move → Book
moved k (Accept e) = accepted k e
moved k (Work i) = worked k i
moved k (Fall i c) = fallen k i c
moved k Base = based k

-- the book after moves, in order
abbrev pub run : Book → List Move → Book
run k [] = k
run k (m ∷ ms) = run (moved k m) ms

-- the entries that moves accept, in order
abbrev pub accepts_of : List Move → List Entry
accepts_of [] = []
accepts_of (Accept e ∷ ms) = e ∷ accepts_of ms
accepts_of (Work i ∷ ms) = accepts_of ms
accepts_of (Fall i c ∷ ms) = accepts_of ms
accepts_of (Base ∷ ms) = accepts_of ms

-- the book after accepting the entries in order
abbrev pub with_entries : Book → List Entry → Book
with_entries k es = record k { entries = k.entries ++ es }
