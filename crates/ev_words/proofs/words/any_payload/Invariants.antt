use Rattle.std.proofs.Common.{◌≡◌, take, false}
use Rattle.std.specs.List.{list_any}
use Rattle.ev_words.specs.Words.{is_payload}
use Rattle.ev_words.proofs.words.any_payload.Given as goal

abbrev pub invariant-loop-operand : goal.invariant-loop-operand
invariant-loop-operand l = list_any is_payload (take l.operand-index l.operands) ≡ false
