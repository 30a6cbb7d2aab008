use Rattle.std.proofs.Common.{◌≡◌, take, false}
use Rattle.std.specs.List.{list_any}
use Rattle.ev_words.specs.Words.{has_odd_part}
use Rattle.ev_words.proofs.words.any_odd_part.Given as goal

abbrev pub invariant-loop-pattern : goal.invariant-loop-pattern
invariant-loop-pattern l = list_any has_odd_part (take l.pattern-index l.side) ≡ false
