use Rattle.std.proofs.Common.{below_more, length, arith, Ok, ap}
use Rattle.ev_ways.proofs.Cycles.{first_is}
use Rattle.ev_ways.proofs.Walks.{reaches_within}
use Rattle.ev_ways.proofs.cycle.find_cycle.Goals as goal

pub returns-in-Some-clause-found : goal.returns-in-Some-clause-found
returns-in-Some-clause-found c =
    first_is c.args.links.now.causes.now c.args.links.now.effects.now c.loop-node.node
    c.in-Some.members.items c.loop-node.invariant (rw c.in-Some.is at c.in_ok-members.ensures.found)

pub loop-node-preserved : goal.loop-node-preserved
loop-node-preserved c =
    below_more _ _ c.loop-node.invariant (c.in_ok-members.ensures.none (ap Ok c.in_default.is))

pub returns-clause-none : goal.returns-clause-none
returns-clause-none c =
    λ e x r. c.loop-node.invariant x
    (omega (
      arith,
      reaches_within c.args.links.now.causes.now c.args.links.now.effects.now
          (length c.args.links.now.uses.now) x
          c.args.links.now.causes_below r,
      c.count-node-end.ensures,
    )) r
