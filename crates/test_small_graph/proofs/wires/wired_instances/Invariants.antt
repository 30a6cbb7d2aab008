use Rattle.std.proofs.Common.{◌≡◌, take, map}
use Rattle.test_small_graph.specs.Small.{wired}
use Rattle.test_small_graph.proofs.wires.wired_instances.Given as goal

abbrev pub invariant-loop-wire : goal.invariant-loop-wire
invariant-loop-wire l = l.instances.items ≡ map wired (take l.wire-index l.wires)
