use Rattle.std.proofs.Common.{◌≡◌, take, false}
use Rattle.std.specs.List.{list_any}
use Rattle.ev_words.specs.Words.{is_odd_side}
use Rattle.ev_words.proofs.words.any_odd_side.Given as goal

abbrev pub invariant-loop-pattern : goal.invariant-loop-pattern
invariant-loop-pattern l = list_any (is_odd_side l.left) (take l.pattern-index l.side) ≡ false
