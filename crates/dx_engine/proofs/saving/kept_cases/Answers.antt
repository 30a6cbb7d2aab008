use Rattle.std.proofs.Common.{sym, ◌∙◌, ap, ◌++◌, [], take, map, subst}
use Rattle.std.specs.List.{All, cons_option}
use Rattle.dx_case.specs.Cases.{open_of}
use Rattle.dx_restore.specs.Saving.{IsShortCase}
use Rattle.dx_turn.specs.declared.tracked.Tracked.{Tracked}
use Rattle.dx_turn.specs.Tracking.{cases_before}
use Rattle.dx_engine.proofs.KeptCases.{kept_more, short_at}
use Rattle.dx_engine.proofs.saving.kept_cases.Goals as goal

pub push_kept-requires : goal.push_kept-requires
push_kept-requires c =
    let t = c.tracked-item.result in
    subst (λ (x : Tracked). All IsShortCase (cons_option x.kept [])) (sym c.tracked-item.is)
    (short_at c.args.cases.now c.loop-tracked.tracked-index t c.loop-tracked-test.true c.requires)

pub loop-tracked-preserved : goal.loop-tracked-preserved
loop-tracked-preserved c =
    let t = c.tracked-item.result in
    let i = c.loop-tracked.tracked-index in
    c.in_ok-push_kept.ensures
    ∙ ap (λ xs. xs ++ map open_of (cons_option t.kept [])) c.loop-tracked.invariant
    ∙ ap (λ (x : Tracked). map open_of (cases_before (take i c.args.cases.now))
    ++ map open_of (cons_option x.kept [])) c.tracked-item.is
    ∙ sym (kept_more c.args.cases.now i t c.loop-tracked-test.true)
