use Rattle.std.proofs.Common.{◌≡◌}
use Rattle.dx_sets.specs.Engine.{AreSized, HaveCounts}
use Rattle.dx_sets.proofs.start.fill_instances.Given as goal

abbrev pub invariant-loop-place : goal.invariant-loop-place
invariant-loop-place g l = record {
  sized : AreSized l.table l.sets;
  counts : HaveCounts l.table (g.C.CutTest.is_cut l.cuts) l.place l.sets;
  marks : l.sets.marks ≡ l.initial.sets.marks;
  pending : l.sets.pending ≡ l.initial.sets.pending;
  support : l.sets.support ≡ l.initial.sets.support;
}
