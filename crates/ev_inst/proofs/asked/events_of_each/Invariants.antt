-- The numbers so far are those of the first patterns.
use Rattle.std.proofs.Common.{map, take}
use Rattle.ev_tree.specs.Pattern.{view_pattern}
use Rattle.ev_inst.specs.Asked.{AreEventsOfAll}
use Rattle.ev_inst.proofs.asked.events_of_each.Given as goal

abbrev pub invariant-patterns : goal.invariant-patterns
invariant-patterns l = AreEventsOfAll l.binding.topo.now l.index.nodes.now l.binding.names.now
    l.binding.instances.now (map view_pattern (take l.at l.patterns)) l.given.items
