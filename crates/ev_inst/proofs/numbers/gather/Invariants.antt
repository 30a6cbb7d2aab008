-- The numbers so far are those of the first patterns, of which none is bare.
use Rattle.std.proofs.Common.{◌≡◌, false, map, take}
use Rattle.std.specs.List.{list_any}
use Rattle.ev_tree.specs.Pattern.{view_pattern}
use Rattle.ev_inst.specs.Gathering.{AreEventNumbers}
use Rattle.ev_inst.specs.Outcomes.{is_bare}
use Rattle.ev_inst.proofs.numbers.gather.Given as goal

abbrev pub invariant-patterns : goal.invariant-patterns
invariant-patterns l =
    (list_any (is_bare l.binding.topo.now l.binding.names.now l.binding.instances.now)
    (map view_pattern (take l.at l.patterns)) ≡ false)
    × AreEventNumbers l.binding.topo.now l.index.nodes.now l.binding.names.now
    l.binding.instances.now
    (map view_pattern (take l.at l.patterns)) l.found.items
