use Rattle.ev_ways.proofs.Membership.{one_below}
use Rattle.test_language.proofs.arrows.drawn.Goals as goal

pub push-requires-clause-causes : goal.push-requires-clause-causes
push-requires-clause-causes c =
    rw (c.in_ok-causes.ensures, c.steps.invariant.nodes)
    (one_below c.args.nodes _ c.if-step-nodes.true)

pub push-requires-clause-effects : goal.push-requires-clause-effects
push-requires-clause-effects c =
    rw (c.in_ok-effects.ensures, c.steps.invariant.nodes)
    (one_below c.args.nodes _ c.if-step-nodes-2.true)
