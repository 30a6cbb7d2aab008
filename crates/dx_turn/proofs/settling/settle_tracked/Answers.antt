use Rattle.std.proofs.Common.{subst}
use Rattle.dx_case.specs.Cases.{open_of}
use Rattle.dx_turn.specs.Tracking.{opens_of}
use Rattle.dx_turn.specs.Settling.{IsMoved}
use Rattle.dx_turn.proofs.Both.{on_both}
use Rattle.dx_turn.proofs.Moving.{unmoved_settled, unmoved_current}
use Rattle.dx_turn.proofs.Settles.{settled_moved}
use Rattle.dx_turn.proofs.settling.settle_tracked.Goals as goal

pub returns-in-None-clause-ok : goal.returns-in-None-clause-ok
returns-in-None-clause-ok c =
    let d = c.args.ground.now in
    unmoved_settled d c.args.tracked.now c.args.told.now c.requires.ground c.requires.told
    c.requires.ready
    (subst (IsMoved d.graph.now d.time c.args.tracked.now) c.in-None.is c.in_ok-expired.ensures)

pub returns-in-None-clause-current : goal.returns-in-None-clause-current
returns-in-None-clause-current c =
    let d = c.args.ground.now in
    unmoved_current d.graph.now d.time c.args.tracked.now c.requires.ready
    (subst (IsMoved d.graph.now d.time c.args.tracked.now) c.in-None.is c.in_ok-expired.ensures)

pub returns-in-Some-clause-ok : goal.returns-in-Some-clause-ok
returns-in-Some-clause-ok c =
    let d = c.args.ground.now in
    let moved = subst (IsMoved d.graph.now d.time c.args.tracked.now) c.in-Some.is
    c.in_ok-expired.ensures in
    on_both c.settle.result
    (λ h left. settled_moved d (open_of c.in-Some.case) (opens_of c.args.tracked.now)
    (opens_of c.settle.new.tracked) c.args.told.now c.settle.new.told c.requires.ground moved.0
    left h)
    c.settle.ensures.turned c.settle.ensures.left
