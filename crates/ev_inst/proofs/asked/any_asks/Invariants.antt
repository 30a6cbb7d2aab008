-- None of the first patterns asks the payload.
use Rattle.std.proofs.Common.{◌≡◌, false, map, take}
use Rattle.std.specs.List.{list_any}
use Rattle.ev_tree.specs.Pattern.{view_pattern}
use Rattle.ev_inst.specs.Guarding.{asks_if}
use Rattle.ev_inst.proofs.asked.any_asks.Given as goal

abbrev pub invariant-loop-pattern : goal.invariant-loop-pattern
invariant-loop-pattern l =
    list_any (λ q. asks_if q.cond) (map view_pattern (take l.pattern-index l.patterns)) ≡ false
