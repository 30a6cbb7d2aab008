use Rattle.std.proofs.Common.{◌≡◌, ◌+◌}
use Rattle.dx_sets.specs.Sets.{sum_held}
use Rattle.dx_sets.specs.Engine.{IsSteady, SettlesTo, cost}
use Rattle.dx_sets.proofs.engine.settle.Given as goal

abbrev pub invariant-loop-node : goal.invariant-loop-node
invariant-loop-node g l = record {
  steady : IsSteady l.table (g.C.CutTest.is_cut l.cuts) l.root l.sets;
  settles : SettlesTo l.table (g.C.CutTest.is_cut l.cuts) l.root l.initial.sets l.sets;
  cost : l.steps + cost l.table l.sets ≡ l.initial.steps + cost l.table l.initial.sets;
}

abbrev pub decreases-loop-node : goal.decreases-loop-node
decreases-loop-node g l = sum_held l.sets (λ e. 1)
