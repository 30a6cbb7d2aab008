-- The candidates of the first propagations are gathered.
use Rattle.std.proofs.Common.{map, take}
use Rattle.ev_check.specs.CheckedFile.{view_prop}
use Rattle.ev_inst.specs.Gathering.{IsGatheredTo}
use Rattle.ev_inst.proofs.gathered.gather_all.Given as goal

abbrev pub invariant-props : goal.invariant-props
invariant-props l = IsGatheredTo l.topo l.nodes (map view_prop
    (take l.at l.props)) l.left l.gathered
