-- The engines so far are those of the first names.
use Rattle.ev_events.specs.Nodes.{AreEnginesAt}
use Rattle.ev_events.proofs.nodes.engines_of.Given as goal

abbrev pub invariant-names : goal.invariant-names
invariant-names l = AreEnginesAt l.checked l.names l.places.names.items l.places.numbers.items l.at
    l.engines.items
