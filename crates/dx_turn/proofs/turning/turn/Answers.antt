use Rattle.std.proofs.lemmas.Result.{IfOk-weaker}
use Rattle.dx_step.specs.Turns.{Turn, settle_all}
use Rattle.dx_step.specs.Reports.{trips}
use Rattle.dx_step.specs.Step.{act, reload}
use Rattle.dx_turn.specs.Grounds.{rules_on}
use Rattle.dx_turn.proofs.Reloads.{gone_then, gone_ended, gone_ascend}
use Rattle.dx_turn.proofs.turning.turn.Goals as goal

pub act-requires-clause-ascend : goal.act-requires-clause-ascend
act-requires-clause-ascend c =
    gone_ascend c.args.ground.now (settle_all (rules_on c.args.ground.now)) c.args.work.now
    c.settle_work.new.work c.in_ok-settle_work.ensures.ok c.requires.ascend

pub returns-clause-ok : goal.returns-clause-ok
returns-clause-ok c =
    let d = c.args.ground.now in
    let r = rules_on d in
    let n = c.args.number in
    let e = c.args.entry.now in
    let f : Turn → Turn = λ t. act r n e (settle_all r t) in
    let two = gone_then d (settle_all r) (act r n e) c.args.work.now c.settle_work.new.work
    c.act.new.work c.in_ok-settle_work.ensures.ok c.in_ok-act.ensures.ok in
    let three = gone_then d f (trips r n) c.args.work.now c.act.new.work c.trips.new.work two
    c.in_ok-trips.ensures.ok in
    IfOk-weaker c.reload.result _ _
    (λ x h. gone_ended d (λ t. trips r n (f t)) (reload r e) x c.args.work.now c.trips.new.work
    c.reload.new.work three h) c.reload.ensures.ok
