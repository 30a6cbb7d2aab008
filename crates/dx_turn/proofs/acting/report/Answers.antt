use Rattle.std.proofs.lemmas.Result.{on_ok_weaker}
use Rattle.dx_turn.proofs.Names.{reported_known, reported_unknown}
use Rattle.dx_turn.proofs.acting.report.Goals as goal

pub returns-in-Some-clause-ok : goal.returns-in-Some-clause-ok
returns-in-Some-clause-ok c =
    on_ok_weaker c.join_known.result
    (λ h. reported_known c.args.ground.now c.args.entry c.in-Some.node c.args.name
    c.args.payload.now c.args.work.now c.join_known.new.work c.requires.ground
    c.in-Some.ensures.named c.in-Some.ensures.declared.1 h)
    c.join_known.ensures.ok

pub returns-in-None-clause-ok : goal.returns-in-None-clause-ok
returns-in-None-clause-ok c =
    on_ok_weaker c.join_unknown.result
    (λ h. reported_unknown c.args.ground.now c.args.entry c.args.name c.args.payload.now
    c.args.work.now c.join_unknown.new.work c.requires.ground c.in-None.ensures.named h)
    c.join_unknown.ensures.ok
