-- The first nodes have no guards.
use Rattle.std.proofs.Common.{take}
use Rattle.ev_inst.specs.Asked.{AreBare}
use Rattle.ev_inst.proofs.guarding.bare_nodes.Given as goal

abbrev pub invariant-nodes : goal.invariant-nodes
invariant-nodes l = AreBare (take l.node-index l.nodes) l.bare.items
