-- The names so far with the patterns that are left are all names.
use Rattle.std.proofs.Common.{◌≡◌, drop, map}
use Rattle.ev_tree.specs.Pattern.{view_pattern}
use Rattle.ev_events.specs.Names.{with_patterns}
use Rattle.ev_events.proofs.names.add_patterns.Given as goal

abbrev pub invariant-loop-pattern : goal.invariant-loop-pattern
invariant-loop-pattern l =
    with_patterns l.names (map view_pattern (drop l.pattern-index l.patterns))
    ≡ with_patterns l.initial.names (map view_pattern l.patterns)
