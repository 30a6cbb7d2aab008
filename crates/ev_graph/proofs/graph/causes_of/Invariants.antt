use Rattle.std.proofs.Common.{◌≡◌, take, map}
use Rattle.ev_graph.proofs.graph.causes_of.Given as goal

abbrev pub invariant-loop-instance : goal.invariant-loop-instance
invariant-loop-instance l = l.rows ≡ map (λ i. i.causes) (take l.instance-index l.instances)
