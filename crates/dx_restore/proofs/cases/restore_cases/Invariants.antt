-- The cases so far were made again, and each waits.
use Rattle.std.proofs.Common.{take}
use Rattle.dx_case.specs.Starts.{AreStartsOf}
use Rattle.dx_restore.specs.Restoring.{AreCasesAgain}
use Rattle.dx_restore.proofs.cases.restore_cases.Given as goal

abbrev pub invariant-loop-item : goal.invariant-loop-item
invariant-loop-item l = record {
  again : AreCasesAgain l.graph l.time (take l.item-index l.kept) l.cases.items;
  starts : AreStartsOf l.graph l.starts;
}
