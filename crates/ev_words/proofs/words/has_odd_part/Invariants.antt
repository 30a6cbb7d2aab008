use Rattle.std.proofs.Common.{◌≡◌, take, false}
use Rattle.std.specs.List.{list_any}
use Rattle.ev_words.specs.Words.{is_odd_part}
use Rattle.ev_words.proofs.words.has_odd_part.Given as goal

abbrev pub invariant-loop-part : goal.invariant-loop-part
invariant-loop-part l = list_any is_odd_part (take l.part-index l.parts) ≡ false
