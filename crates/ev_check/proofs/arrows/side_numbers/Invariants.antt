use Rattle.std.proofs.Common.{◌≡◌, take, length}
use Rattle.ev_ways.specs.Lists.{AllBelow}
use Rattle.ev_check.specs.Drawn.{side_numbers}
use Rattle.ev_check.proofs.arrows.side_numbers.Given as goal

abbrev pub invariant-loop-pattern : goal.invariant-loop-pattern
invariant-loop-pattern l = record {
  found : l.found ≡ side_numbers l.events (take l.pattern-index l.side);
  below : AllBelow (length l.events) l.found;
}
