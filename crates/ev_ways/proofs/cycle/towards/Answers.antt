use Rattle.std.proofs.lemmas.Result.{IfOk-weaker}
use Rattle.ev_ways.proofs.Cycles.{towards_is}
use Rattle.ev_ways.proofs.cycle.towards.Goals as goal

pub returns : goal.returns
returns c = IfOk-weaker c.distances_along.result _ _
    (λ d h. towards_is c.args.links.now.causes.now c.args.links.now.effects.now c.args.goal d.items
    h)
    (rw (← c.turned.ensures.causes, ← c.turned.ensures.effects) c.distances_along.ensures.found)
