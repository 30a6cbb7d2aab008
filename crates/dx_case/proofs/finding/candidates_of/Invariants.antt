use Rattle.std.proofs.Common.{take}
use Rattle.dx_case.specs.Finding.{AreAsMade}
use Rattle.dx_case.proofs.finding.candidates_of.Given as goal

abbrev pub invariant-loop-root : goal.invariant-loop-root
invariant-loop-root l = AreAsMade l.graph (take l.root-index l.roots) l.candidates.items
