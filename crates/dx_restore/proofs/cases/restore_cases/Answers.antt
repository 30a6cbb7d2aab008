-- One case more was made again.
use Rattle.std.proofs.Common.{◌+◌, sym, subst, take, ◌∙◌}
use Rattle.dx_restore.specs.Restoring.{AreCasesAgain}
use Rattle.dx_restore.proofs.Again.{again_more, waits_then}
use Rattle.dx_restore.proofs.cases.restore_cases.Goals as goal

pub loop-item-preserved : goal.loop-item-preserved
loop-item-preserved c =
    let g = c.args.graph.now in
    let time = c.args.time in
    let i = c.loop-item.item-index in
    let same = c.in_ok-case.ensures.same ∙ c.item-item.is in
    record {
      again = subst (AreCasesAgain g time (take (i + 1) c.args.kept.now))
          (sym c.in_ok-push.ensures.items)
          (again_more g time c.args.kept.now c.loop-item.cases.items i c.item-item.result
          c.in_ok-case.case c.loop-item-test.true same c.in_ok-case.ensures.at
          (sym (waits_then g time c.in_ok-case.case _ c.is_pending.result c.in_ok-case.ensures.at
          same c.is_pending.ensures) ∙ c.if-not-is_pending.false)
          c.loop-item.invariant.again);
      starts = c.in_ok-case.ensures.starts;
    }
