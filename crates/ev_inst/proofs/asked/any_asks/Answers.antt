-- A pattern that asks is one of them.
use Rattle.std.proofs.Common.{sym, ◌∙◌}
use Rattle.ev_inst.proofs.Questioning.{asks_at}
use Rattle.ev_inst.proofs.asked.any_asks.Goals as goal

pub returns-then-asks : goal.returns-then-asks
returns-then-asks c =
    sym (asks_at c.args.patterns.now c.loop-pattern.pattern-index c.pattern-item.result
    c.loop-pattern-test.true c.pattern-item.is (sym c.asks.ensures ∙ c.if-asks.true))
