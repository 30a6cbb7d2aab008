use Rattle.std.proofs.Common.{subst}
use Rattle.std.proofs.lemmas.Result.{on_ok_weaker}
use Rattle.dx_case.specs.Cases.{open_of}
use Rattle.dx_turn.specs.Tracking.{opens_of}
use Rattle.dx_turn.specs.Reloading.{IsFinished}
use Rattle.dx_turn.proofs.Turned.{turned_not}
use Rattle.dx_turn.proofs.Reloads.{decided_none, decided_one}
use Rattle.dx_turn.proofs.reloading.decide_tracked.Goals as goal

pub returns-in-None-clause-ok : goal.returns-in-None-clause-ok
returns-in-None-clause-ok c =
    let d = c.args.ground.now in
    let t = c.args.tracked.now in
    decided_none d t c.args.told.now c.args.told.now
    (subst (IsFinished d.graph.now t) c.in-None.is c.in_ok-finished.ensures)
    (turned_not d c.args.told.now c.requires.told)

pub returns-in-None-clause-none : goal.returns-in-None-clause-none
returns-in-None-clause-none c =
    subst (IsFinished c.args.ground.now.graph.now c.args.tracked.now) c.in-None.is
    c.in_ok-finished.ensures

pub returns-in-Some-clause-ok : goal.returns-in-Some-clause-ok
returns-in-Some-clause-ok c =
    let d = c.args.ground.now in
    let t = c.args.tracked.now in
    let fin = subst (IsFinished d.graph.now t) c.in-Some.is c.in_ok-finished.ensures in
    on_ok_weaker c.decide-in-Some.result
    (λ h. decided_one d (opens_of t) (open_of c.in-Some.case) c.args.told.now
    c.decide-in-Some.new.told fin.0 h)
    c.decide-in-Some.ensures
