use Rattle.std.proofs.Common.{take}
use Rattle.dx_case.specs.Cases.{AreAwaited}
use Rattle.dx_case.proofs.changes.awaited_until.Given as goal

abbrev pub invariant-loop-report : goal.invariant-loop-report
invariant-loop-report l = AreAwaited l.nodes (take l.report-index l.reports) l.age l.until
