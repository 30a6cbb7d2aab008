-- A core of two counters, as the tests make it.
use Rattle.std.specs.Prelude.{◌≡◌, ℕ, List, [], ◌∷◌, length}
use Rattle.fm_entry.specs.declared.entry.Entry.{Entry}
use Rattle.fm_core.specs.Hands.{HandOf, Shown}
use Rattle.fm_core.specs.Meaning.{Counting}
use Rattle.fm_core.specs.Counter.{CounterOf, counter_meaning, counters}
use Rattle.fm_core.specs.Folds.{state_along}
use Rattle.fm_core.specs.Book.{ModuleState}
use Rattle.fm_core.specs.Seen.{CoreOf, seen, stands_for, IsCore}

-- a hand of a counter that has counted nothing
abbrev pub fresh_hand : ℕ → HandOf CounterOf
fresh_hand i = record { number = i; cursor = 0; object = record { number = i; counts = [] } }

-- a hand of module 0 that took these entries, from the start on
abbrev pub shown_after : List Entry → Shown
shown_after es =
    record {
      number = 0;
      cursor = length es;
      meaning = counter_meaning 0;
      state = state_along (counter_meaning 0) (Counting []) 0 es;
    }

abbrev pub fresh_module : ℕ → ModuleState
fresh_module i = record { meaning = counter_meaning i; state = Counting [] }

-- the core is in order, begins at 0, and has two counters that had counted nothing there
pub record IsFilled (c : CoreOf CounterOf) : Type 0 where
  pub lawful : IsCore (seen counters c)
  pub base_is : c.base ≡ 0
  pub modules_are : (stands_for counters c).modules ≡ fresh_module 0 ∷ fresh_module 1 ∷ []
  pub two : length c.hands ≡ 2
