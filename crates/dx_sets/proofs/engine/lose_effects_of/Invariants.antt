use Rattle.std.proofs.Common.{◌≡◌, ◌+◌, not, drop}
use Rattle.std.specs.List.{filter}
use Rattle.dx_sets.specs.Engine.{IsPaying}
use Rattle.dx_sets.proofs.engine.lose_effects_of.Given as goal

abbrev pub invariant-loop-effect : goal.invariant-loop-effect
invariant-loop-effect g l = record {
  paying : IsPaying l.table (g.C.CutTest.is_cut l.cuts) l.root
      (filter (λ e. not (g.C.CutTest.is_cut l.cuts l.place e)) (drop l.effect-index l.effect-items))
      l.initial.sets l.sets;
  cost : l.steps ≡ l.initial.steps + l.effect-index;
}
