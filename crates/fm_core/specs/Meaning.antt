-- What a module is to contracts: its states, and its meaning.
use Rattle.std.specs.Prelude.{◌≡◌, ◌≢◌, ℕ, ◌<◌, ◌^◌, Bool, false, List}
use Rattle.std.specs.Prelude.{length, All, Option, Some, IsTrue, ◌&&◌, nat_lt, if◌then◌else◌}
use Rattle.fm_nv.specs.Data.{Pairs}
use Rattle.fm_entry.specs.declared.broken.Broken.{Broken}
use Rattle.fm_entry.specs.declared.entry.Entry.{Entry}
use Rattle.fm_entry.specs.declared.entry.Entry.TheVariants.{Report, Tick, Reload}
use Rattle.fm_entry.specs.declared.list_event.ListEvent.{ListEvent}
use Rattle.fm_entry.specs.Entries.{IsSpelled}
use Rattle.fm_entry.specs.Words.{IsWordOf}
use Rattle.fm_core.specs.declared.class_count.ClassCount.{ClassCount}

-- An open case of a diagnosis module: its number, the module's time when it was opened, the numbers
-- of the entries of its reports, their nodes in the graph, and the links that the payloads of its
-- reports break.
pub record OpenCase : Type 0 where
  pub number : ℕ
  pub opened : ℕ
  pub entries : List ℕ
  pub observed : List ℕ
  pub broken : List Broken

-- The state of a diagnosis module: the number of its configuration, its time, the number of the
-- next case, the open cases, the last word of each solved case, and the moments that each engine
-- has noted since its last reset.
pub record Diagnosis : Type 0 where
  pub conf : ℕ
  pub time : ℕ
  pub next : ℕ
  pub open_cases : List OpenCase
  pub solved : List ListEvent
  pub engines : List (List ℕ)

-- a state of some module, one constructor for each kind: the counts of a counter by class, the
-- state of a diagnosis module, or the bytes that stand for the state of a module that this project
-- does not know
pub data State : Type 0 where
  Counting : List ClassCount → State
  Diagnosing : Diagnosis → State
  Foreign : List ℕ → State

-- The number of the configuration after an entry, of a module that knows so many configurations:
-- that which a Reload names, where it is known and above the number before; else the number before.
abbrev pub conf_after : ℕ → Option ℕ → Entry → Option ℕ
conf_after known (Some c) (Reload conf moment) =
    Some (if (nat_lt c conf && nat_lt conf known) then conf else c)
conf_after known before _ = before

-- What an object is by what it was made with. `known` is how many configurations it knows, which
-- are numbered from 0, and 0 where it was made with no list of them. `conf` is the number of the
-- configuration of a state, none where it has none. `takes` says which classes it subscribes to,
-- `after` and `says` the state after the entry with a number and the words said at it, `holds`
-- which states are lawful, and `saved` the bytes that a state is kept as.
pub record Meaning : Type 0 where
  pub own : ℕ
  pub known : ℕ
  pub conf : State → Option ℕ
  pub takes : State → List ℕ → Bool
  pub after : State → ℕ → Entry → State
  pub says : State → ℕ → Entry → List ListEvent
  pub holds : State → Bool
  pub saved : State → List ℕ
  -- a report of a class that it does not subscribe to is taken as a tick at its moment
  pub after_ticks : (s : State) (n : ℕ) (class path : List ℕ) (moment : ℕ) (payload : Pairs)
      → takes s class ≡ false
      → after s n (Report class path moment payload) ≡ after s n (Tick moment)
  pub says_ticks : (s : State) (n : ℕ) (class path : List ℕ) (moment : ℕ) (payload : Pairs)
      → takes s class ≡ false
      → says s n (Report class path moment payload) ≡ says s n (Tick moment)
  -- the configuration changes at a Reload that names a known one above it, and at no other entry
  pub conf_steps : (s : State) (n : ℕ) (e : Entry)
      → conf (after s n e) ≡ conf_after known (conf s) e
  -- a lawful state is followed by lawful ones, and what is said at it is words of the module
  pub after_holds : (s : State) (n : ℕ) (e : Entry) → IsTrue (holds s) → n < 2 ^ 46 → IsSpelled e
      → IsTrue (holds (after s n e))
  pub says_words : (s : State) (n : ℕ) (e : Entry) → IsTrue (holds s) → n < 2 ^ 46 → IsSpelled e
      → All (IsWordOf own) (says s n e)
  -- equal saves of lawful states are of equal states, where they are no longer than memory has
  -- bytes
  pub saved_once : (s t : State) → IsTrue (holds s) → IsTrue (holds t) → length (saved s) < 2 ^ 64
      → saved s ≡ saved t → s ≡ t

-- what an object of this meaning does, as all contracts cite it
abbrev pub conf_of : Meaning → State → Option ℕ
conf_of m = m.conf

abbrev pub takes_of : Meaning → State → List ℕ → Bool
takes_of m = m.takes

abbrev pub after_of : Meaning → State → ℕ → Entry → State
after_of m = m.after

abbrev pub says_of : Meaning → State → ℕ → Entry → List ListEvent
says_of m = m.says

abbrev pub holds_of : Meaning → State → Bool
holds_of m = m.holds

abbrev pub saved_of : Meaning → State → List ℕ
saved_of m = m.saved

-- the bytes are the save of no lawful state
abbrev pub IsNoSave : Meaning → List ℕ → Type 0
IsNoSave m bytes = (s : State) → IsTrue (holds_of m s) → saved_of m s ≢ bytes
