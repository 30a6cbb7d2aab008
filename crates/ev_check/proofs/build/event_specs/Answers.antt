use Rattle.std.proofs.Common.{sym, ◌∙◌, ap, ◌++◌, option_to_list}
use Rattle.ev_check.specs.CheckedFile.{event_spec}
use Rattle.ev_check.proofs.Drawings.{given_more}
use Rattle.ev_check.proofs.build.event_specs.Goals as goal

pub loop-statement-preserved : goal.loop-statement-preserved
loop-statement-preserved c =
    let x = c.statement-item.result in
    c.in_ok-add_event.ensures
    ∙ ap (λ y. y ++ option_to_list (event_spec c.args.engines.now x)) c.loop-statement.invariant
    ∙ sym (given_more (event_spec c.args.engines.now) c.args.statements.now
    c.loop-statement.statement-index x c.loop-statement-test.true c.statement-item.is)
