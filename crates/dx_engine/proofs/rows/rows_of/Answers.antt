use Rattle.std.proofs.Common.{sym, ◌∙◌, ap, ◌++◌, [], take}
use Rattle.std.specs.List.{cons_option}
use Rattle.dx_turn.specs.declared.tracked.Tracked.{Tracked}
use Rattle.dx_turn.specs.Tracking.{cases_before}
use Rattle.dx_engine.specs.Rows.{rows_of}
use Rattle.dx_engine.proofs.OpenRows.{rows_more}
use Rattle.dx_engine.proofs.rows.rows_of.Goals as goal

pub loop-tracked-preserved : goal.loop-tracked-preserved
loop-tracked-preserved c =
    let own = c.args.own in
    let t = c.tracked-item.result in
    c.in_ok-push_row.ensures
    ∙ ap (λ xs. xs ++ rows_of own (cons_option t.kept [])) c.loop-tracked.invariant
    ∙ ap (λ (x : Tracked). rows_of own (cases_before (take c.loop-tracked.tracked-index
    c.args.cases.now)) ++ rows_of own (cons_option x.kept [])) c.tracked-item.is
    ∙ sym (rows_more own c.args.cases.now c.loop-tracked.tracked-index t c.loop-tracked-test.true)
