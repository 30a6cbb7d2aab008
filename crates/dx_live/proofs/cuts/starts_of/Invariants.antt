use Rattle.dx_live.specs.Cuts.{AreStarts}
use Rattle.dx_live.proofs.cuts.starts_of.Given as goal

abbrev pub invariant-loop-place : goal.invariant-loop-place
invariant-loop-place l = AreStarts l.place l.table.effects l.starts.items l.total
