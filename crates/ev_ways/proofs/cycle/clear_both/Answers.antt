use Rattle.std.proofs.lemmas.Result.{on_ok_weaker}
use Rattle.ev_ways.proofs.Clears.{clear_back}
use Rattle.ev_ways.proofs.cycle.clear_both.Goals as goal

pub clear-requires-2 : goal.clear-requires-2
clear-requires-2 c = rw (c.turned.ensures.causes, c.turned.ensures.effects)
    (clear_back c.args.links.now.causes.now c.args.links.now.effects.now c.clear.new.cleared
    c.in_ok-clear.ensures)

pub returns : goal.returns
returns c = on_ok_weaker c.clear-2.result
    (λ h. clear_back c.args.links.now.effects.now c.args.links.now.causes.now c.clear-2.new.cleared
    h)
    (rw (← c.turned.ensures.causes, ← c.turned.ensures.effects) c.clear-2.ensures)
