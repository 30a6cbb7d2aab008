-- A core of two counters.
use Rattle.std.specs.Prelude.{◌≡◌, ℕ, [], length}
use Rattle.fm_core.specs.Counter.{CounterOf, counters}
use Rattle.fm_core.specs.Hands.{HandOf}
use Rattle.fm_core.specs.Seen.{CoreOf, seen, IsCore}

-- a hand of a counter that has counted nothing
abbrev pub fresh_hand : ℕ → HandOf CounterOf
fresh_hand own = record { number = own; cursor = 0; object = record { number = own; counts = [] } }

-- the core is in order, begins at 0, and has two counters
pub record HasCounters (c : CoreOf CounterOf) : Type 0 where
  pub lawful : IsCore (seen counters c)
  pub base_is : c.base ≡ 0
  pub two : length c.hands ≡ 2
