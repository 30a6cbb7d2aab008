use Rattle.std.proofs.Common.{◌≡◌, map, take}
use Rattle.ev_tree.specs.Pattern.{view_pattern}
use Rattle.ev_tree.proofs.copies.copy_patterns.Given as goal

abbrev pub invariant-loop-pattern : goal.invariant-loop-pattern
invariant-loop-pattern l =
    map view_pattern l.copies.items ≡ map view_pattern (take l.pattern-index l.patterns)
