-- One condition more asks nothing, or one that asks settles the answer.
use Rattle.std.proofs.Common.{◌∙◌, sym}
use Rattle.ev_events.proofs.Asks.{any_asks_at, any_asks_more}
use Rattle.ev_events.proofs.asking.+asks.Goals as goal

pub any_asks-returns-then-asks_payload : goal.any_asks-returns-then-asks_payload
any_asks-returns-then-asks_payload t c =
    sym (any_asks_at c.args.conds.now c.loop-cond.cond-index c.cond-item.result
    c.loop-cond-test.true c.cond-item.is
    (sym c.asks_payload.ensures ∙ c.if-asks_payload.true))

pub any_asks-loop-cond-preserved : goal.any_asks-loop-cond-preserved
any_asks-loop-cond-preserved t c =
    any_asks_more c.args.conds.now c.loop-cond.cond-index c.cond-item.result
    c.loop-cond-test.true c.cond-item.is
    (sym c.asks_payload.ensures ∙ c.if-asks_payload.false) c.loop-cond.invariant
