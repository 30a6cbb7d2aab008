use Rattle.std.proofs.Common.{◌≡◌, take, map}
use Rattle.ev_graph.proofs.graph.effects_of.Given as goal

abbrev pub invariant-loop-instance : goal.invariant-loop-instance
invariant-loop-instance l = l.rows ≡ map (λ i. i.effects) (take l.instance-index l.instances)
