use Rattle.std.proofs.Common.{◌≡◌, take, false}
use Rattle.std.specs.List.{list_any}
use Rattle.ev_check.specs.Declarations.{is_undeclared}
use Rattle.ev_check.proofs.undeclared.any_undeclared.Given as goal

abbrev pub invariant-loop-pattern : goal.invariant-loop-pattern
invariant-loop-pattern l = list_any (is_undeclared l.events) (take l.pattern-index l.side) ≡ false
