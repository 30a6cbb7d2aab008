-- The cases so far are kept.
use Rattle.std.proofs.Common.{◌≡◌, map, take}
use Rattle.dx_case.specs.Cases.{open_of}
use Rattle.dx_restore.proofs.saving.kept_cases.Given as goal

abbrev pub invariant-loop-case : goal.invariant-loop-case
invariant-loop-case l = l.kept.items ≡ map open_of (take l.case-index l.cases)
