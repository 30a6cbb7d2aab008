use Rattle.dx_sets.specs.Engine.{HaveEnough}
use Rattle.dx_sets.proofs.start.all_have_enough.Given as goal

abbrev pub invariant-loop-place : goal.invariant-loop-place
invariant-loop-place l = HaveEnough l.table l.place
