use Rattle.std.proofs.Common.{sym, ◌∙◌, ap, ◌++◌, option_to_list}
use Rattle.ev_check.specs.Faults.{event_place}
use Rattle.ev_check.proofs.Drawings.{given_more}
use Rattle.ev_check.proofs.cycles.event_places.Goals as goal

pub loop-statement-preserved : goal.loop-statement-preserved
loop-statement-preserved c =
    let x = c.statement-item.result in
    c.in_ok-add_place.ensures
    ∙ ap (λ y. y ++ option_to_list (event_place x)) c.loop-statement.invariant
    ∙ sym (given_more (event_place) c.args.statements.now c.loop-statement.statement-index x
    c.loop-statement-test.true c.statement-item.is)
