-- Whether all are apart is whether the rest is.
use Rattle.std.proofs.Common.{◌≡◌, drop}
use Rattle.dx_state.specs.LawfulState.{are_apart}
use Rattle.dx_lawful.proofs.numbers.are_apart.Given as goal

abbrev pub invariant-loop-number : goal.invariant-loop-number
invariant-loop-number l =
    are_apart (drop l.number-index l.numbers) l.others ≡ are_apart l.numbers l.others
