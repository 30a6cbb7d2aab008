use Rattle.std.proofs.Common.{◌≡◌, ◌+◌, [], not, drop}
use Rattle.std.specs.List.{filter}
use Rattle.dx_sets.specs.Engine.{IsLooking, cost}
use Rattle.dx_sets.proofs.engine.lose_effects.Given as goal

abbrev pub invariant-loop-place : goal.invariant-loop-place
invariant-loop-place g l = record {
  looking : IsLooking l.table (g.C.CutTest.is_cut l.cuts) l.root []
      (filter (λ j. not (g.C.CutTest.is_cut l.cuts j l.node)) (drop l.place-index l.place-items))
      l.initial.sets l.sets;
  cost : l.steps + cost l.table l.sets
      ≡ l.initial.steps + cost l.table l.initial.sets + l.place-index;
}
