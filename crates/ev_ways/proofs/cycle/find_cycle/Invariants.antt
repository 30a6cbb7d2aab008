use Rattle.std.proofs.Common.{ℕ, ◌<◌}
use Rattle.ev_ways.specs.Ways.{Reaches}
use Rattle.ev_ways.proofs.cycle.find_cycle.Given as goal

abbrev pub invariant-loop-node : goal.invariant-loop-node
invariant-loop-node l = (x : ℕ) → x < l.node → Reaches l.links.causes.now l.links.effects.now x x
    → ⊥
