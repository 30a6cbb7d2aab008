use Rattle.std.proofs.Common.{◌≡◌, ◌++◌, take}
use Rattle.ev_words.proofs.operands.gather_sum.Given as goal

abbrev pub invariant-loop-operand : goal.invariant-loop-operand
invariant-loop-operand l = l.found.items ≡ l.initial.found.items ++ take l.operand-index l.sum
