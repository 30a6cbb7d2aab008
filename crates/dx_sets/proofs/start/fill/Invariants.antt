use Rattle.std.proofs.Common.{length}
use Rattle.dx_sets.specs.Engine.{AreSized, AreFilled, HaveCounts, HaveSupport}
use Rattle.dx_sets.proofs.start.fill.Given as goal

abbrev pub invariant-loop-node : goal.invariant-loop-node
invariant-loop-node g l = record {
  sized : AreSized l.table l.sets;
  full : AreFilled l.table l.sets;
  counts : HaveCounts l.table (g.C.CutTest.is_cut l.cuts) (length l.table.causes) l.sets;
  support : HaveSupport l.table (g.C.CutTest.is_cut l.cuts) l.node l.sets;
}
