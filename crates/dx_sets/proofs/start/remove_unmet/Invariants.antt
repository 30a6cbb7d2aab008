use Rattle.std.proofs.Common.{[]}
use Rattle.dx_sets.specs.Engine.{AreExact, AreGiven, AreMetBelow, IsOnWay}
use Rattle.dx_sets.proofs.start.remove_unmet.Given as goal

abbrev pub invariant-loop-place : goal.invariant-loop-place
invariant-loop-place g l = record {
  exact : AreExact l.table (g.C.CutTest.is_cut l.cuts) l.sets [] [];
  given : AreGiven l.root l.sets;
  met : AreMetBelow l.table l.place l.sets;
  way : IsOnWay l.table (g.C.CutTest.is_cut l.cuts) l.root l.initial.sets l.sets;
}
