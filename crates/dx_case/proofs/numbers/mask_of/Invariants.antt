use Rattle.std.proofs.Common.{take}
use Rattle.dx_case.specs.Numbers.{IsMask}
use Rattle.dx_case.proofs.numbers.mask_of.Given as goal

abbrev pub invariant-loop-number : goal.invariant-loop-number
invariant-loop-number l = IsMask l.mask (take l.number-index l.numbers)
