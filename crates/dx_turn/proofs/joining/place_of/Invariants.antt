use Rattle.std.proofs.Common.{◌≡◌, false, take}
use Rattle.dx_turn.specs.Tracking.{opens_in}
use Rattle.dx_turn.specs.Joining.{takes_any}
use Rattle.dx_turn.proofs.joining.place_of.Given as goal

abbrev pub invariant-loop-at : goal.invariant-loop-at
invariant-loop-at l = takes_any l.ground l.node (opens_in (take l.at l.cases)) ≡ false
