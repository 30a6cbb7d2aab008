use Rattle.dx_case.specs.Changes.{AreChangedBelow, gone_of}
use Rattle.dx_case.proofs.changes.change_counted.Given as goal

abbrev pub invariant-loop-at : goal.invariant-loop-at
invariant-loop-at g l =
    AreChangedBelow l.graph l.change.links.now (gone_of l.graph.nodes l.change.reports.now
    l.change.observed.now l.change.age) l.at l.initial.candidates l.candidates
