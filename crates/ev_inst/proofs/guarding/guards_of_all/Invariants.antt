-- The guards are those of the instances of the first propagations.
use Rattle.std.proofs.Common.{map, take}
use Rattle.ev_check.specs.CheckedFile.{view_prop}
use Rattle.ev_inst.specs.Asked.{AreAllGuards}
use Rattle.ev_inst.proofs.guarding.guards_of_all.Given as goal

abbrev pub invariant-props : goal.invariant-props
invariant-props l = AreAllGuards l.topo l.nodes (map view_prop (take l.at l.props)) l.all
