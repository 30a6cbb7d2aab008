-- Nodes that stand on no cycle, and arrows that lead only to such nodes.
use Rattle.std.specs.Prelude.{ℕ, List, Bool}
use Rattle.ev_ways.specs.Lists.{IsIn, row, marked}
use Rattle.ev_ways.specs.Ways.{Reaches}

-- no marked node reaches itself
pub record AreClear (causes effects : List (List ℕ)) (marks : List Bool) : Type 0 where
  pub each : (x : ℕ) → marked marks x → Reaches causes effects x x → ⊥

-- no effect of a marked arrow reaches itself
pub record LeadClear (causes effects : List (List ℕ)) (marks : List Bool) : Type 0 where
  pub each : (j y : ℕ) → marked marks j → IsIn y (row effects j) → Reaches causes effects y y → ⊥
