use Rattle.std.proofs.Common.{◌≡◌, take}
use Rattle.test_small_graph.specs.Small.{kinds_of}
use Rattle.test_small_graph.proofs.nodes.nodes_of.Given as goal

abbrev pub invariant-loop-kind : goal.invariant-loop-kind
invariant-loop-kind l = kinds_of l.nodes.items ≡ take l.kind-index l.kinds
