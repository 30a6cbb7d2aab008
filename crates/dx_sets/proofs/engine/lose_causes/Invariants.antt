use Rattle.std.proofs.Common.{◌≡◌, ◌+◌, drop}
use Rattle.dx_sets.specs.Engine.{IsLooking, cost, uncut_gets}
use Rattle.dx_sets.proofs.engine.lose_causes.Given as goal

abbrev pub invariant-loop-place : goal.invariant-loop-place
invariant-loop-place g l = record {
  looking : IsLooking l.table (g.C.CutTest.is_cut l.cuts) l.root
      (drop l.place-index l.place-items) (uncut_gets l.table (g.C.CutTest.is_cut l.cuts) l.node)
      l.initial.sets l.sets;
  cost : l.steps + cost l.table l.sets
      ≡ l.initial.steps + cost l.table l.initial.sets + l.place-index;
}
