use Rattle.std.proofs.Common.{◌≡◌, take}
use Rattle.dx_case.proofs.candidate.copies_of.Given as goal

abbrev pub invariant-loop-candidate : goal.invariant-loop-candidate
invariant-loop-candidate l = l.made.items ≡ take l.candidate-index l.candidates
