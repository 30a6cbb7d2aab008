use Rattle.dx_live.specs.Region.{AreLocalRows}
use Rattle.dx_live.proofs.region.local_effects.Given as goal

abbrev pub invariant-loop-place : goal.invariant-loop-place
invariant-loop-place l =
    AreLocalRows l.place-index l.table.effects l.nodes l.places l.rows
