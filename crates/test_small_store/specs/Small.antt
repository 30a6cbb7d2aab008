-- A small store, as its steps leave it.
use Rattle.std.specs.Prelude.{◌≡◌, ℕ, [], length}
use Rattle.fm_core.specs.Counter.{CounterOf, counters}
use Rattle.fm_store.specs.Cursors.{AreAtCursors}
use Rattle.test_small_store.specs.declared.small.SmallStore.{SmallStore}

-- a counter that has counted nothing
abbrev pub fresh_counter : ℕ → CounterOf
fresh_counter i = record { number = i; counts = [] }

-- a hand of each of two modules is at the module's cursor
pub record HasHandsAtCursors (small : SmallStore) : Type 0 where
  pub two : length small.hands.items ≡ 2
  pub at_cursors : AreAtCursors counters small.store.logs small.hands.items
