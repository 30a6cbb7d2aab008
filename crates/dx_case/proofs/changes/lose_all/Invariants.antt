use Rattle.std.proofs.Common.{take, []}
use Rattle.dx_case.specs.Changes.{IsChanged, gone_of}
use Rattle.dx_case.proofs.changes.lose_all.Given as goal

abbrev pub invariant-loop-report : goal.invariant-loop-report
invariant-loop-report g l =
    IsChanged l.graph [] (gone_of l.graph.nodes (take l.report-index l.reports) l.observed l.age)
    l.initial.live l.live
