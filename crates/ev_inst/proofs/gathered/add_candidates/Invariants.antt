-- The outcomes of the first candidates are there.
use Rattle.std.proofs.Common.{take}
use Rattle.ev_check.specs.CheckedFile.{view_prop}
use Rattle.ev_inst.specs.Gathering.{AddsCandidates}
use Rattle.ev_inst.proofs.gathered.add_candidates.Given as goal

abbrev pub invariant-bindings : goal.invariant-bindings
invariant-bindings l = AddsCandidates l.topo l.index.nodes.now (view_prop l.prop)
    (take l.at l.candidates.bindings) l.initial.gathered l.gathered
