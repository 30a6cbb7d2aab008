use Rattle.std.proofs.Common.{ℕ, List, get_or, subst}
use Rattle.std.proofs.lemmas.List.{take_all, get_or_default}
use Rattle.dx_case.specs.Cases.{AreAwaited}
use Rattle.dx_case.proofs.Awaiting.{awaited_none, awaited_more}
use Rattle.dx_case.proofs.changes.awaited_until.Goals as goal

pub loop-report-init : goal.loop-report-init
loop-report-init c = awaited_none c.args.nodes.now c.args.age 18446744073709551615

pub loop-report-preserved : goal.loop-report-preserved
loop-report-preserved c =
    let reports = c.args.reports.now in
    let i = c.loop-report.report-index in
    let x = get_or reports i 0 in
    let l = c.loop-report-test.true in
    awaited_more c.args.nodes.now reports i x c.args.age c.loop-report.until c.sooner-until.result l
    (get_or_default reports i x 0 l) c.sooner-until.ensures.kept
    (rw c.within_of.ensures at c.sooner-until.ensures.within) c.loop-report.invariant

pub returns : goal.returns
returns c =
    let P : List ℕ → Type 0 = λ rs. AreAwaited c.args.nodes.now rs c.args.age c.loop-report.until in
    subst P (take_all c.loop-report.report-index c.args.reports.now c.loop-report-test.false)
    c.loop-report.invariant
