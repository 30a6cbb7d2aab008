use Rattle.dx_live.specs.Region.{AreLocalRows}
use Rattle.dx_live.proofs.region.local_causes.Given as goal

abbrev pub invariant-loop-place : goal.invariant-loop-place
invariant-loop-place l =
    AreLocalRows l.place-index l.table.causes l.nodes l.places l.rows
