-- The numbers so far, and those of the rest, are all.
use Rattle.std.proofs.Common.{◌≡◌, ◌++◌, drop}
use Rattle.dx_state.specs.LawfulState.{solved_numbers}
use Rattle.dx_lawful.proofs.numbers.solved_numbers.Given as goal

abbrev pub invariant-loop-word : goal.invariant-loop-word
invariant-loop-word l =
    l.numbers.items ++ solved_numbers (drop l.word-index l.words) ≡ solved_numbers l.words
