-- The nodes so far are those of the first names.
use Rattle.ev_events.specs.Nodes.{AreNodesAt}
use Rattle.ev_events.proofs.nodes.nodes_of.Given as goal

abbrev pub invariant-names : goal.invariant-names
invariant-names l = AreNodesAt l.checked l.engines l.places.names.items l.places.numbers.items l.at
    l.nodes.items
