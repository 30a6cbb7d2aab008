-- The guards of the instances of the first candidates were added.
use Rattle.std.proofs.Common.{take}
use Rattle.ev_check.specs.CheckedFile.{view_prop}
use Rattle.ev_inst.specs.Asked.{AddsDerivations, made_of}
use Rattle.ev_inst.proofs.guarding.add_prop.Given as goal

abbrev pub invariant-bindings : goal.invariant-bindings
invariant-bindings l = AddsDerivations l.topo l.index.nodes.now
    (made_of l.topo l.index.nodes.now (view_prop l.prop)
    (take l.at l.candidates.bindings)) l.initial.all l.all
