use Rattle.std.proofs.Common.{◌≡◌, map, take}
use Rattle.ev_guards.specs.Watched.{view_node}
use Rattle.ev_guards.proofs.copying.copy_nodes.Given as goal

abbrev pub invariant-loop-node : goal.invariant-loop-node
invariant-loop-node l =
    map view_node l.copies.items ≡ map view_node (take l.node-index l.nodes)
