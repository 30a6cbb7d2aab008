use Rattle.ev_graph.proofs.Building.{causes_below, effects_below}
use Rattle.ev_graph.proofs.graph.incidence_of.Goals as goal

pub new-requires-clause-causes : goal.new-requires-clause-causes
new-requires-clause-causes c =
    rw c.in_ok-causes.ensures (causes_below c.args.count c.args.instances.now c.requires)

pub new-requires-clause-effects : goal.new-requires-clause-effects
new-requires-clause-effects c =
    rw c.in_ok-effects.ensures (effects_below c.args.count c.args.instances.now c.requires)
