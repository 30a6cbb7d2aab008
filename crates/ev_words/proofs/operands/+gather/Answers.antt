use Rattle.ev_words.proofs.Gathering.{gathered_more}
use Rattle.ev_words.proofs.operands.+gather.Goals as goal

pub gather_each-loop-cond-preserved : goal.gather_each-loop-cond-preserved
gather_each-loop-cond-preserved t c =
    gathered_more c.args.conds.now c.loop-cond.cond-index c.cond-item.result c.loop-cond.found.items
    _ _ c.loop-cond-test.true c.cond-item.is c.loop-cond.invariant c.in_ok-gather.ensures
