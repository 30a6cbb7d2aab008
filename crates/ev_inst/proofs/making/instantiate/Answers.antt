-- The nodes are those that the patterns ask for.
use Rattle.std.proofs.Common.{List, map, sym, ap, subst}
use Rattle.ev_check.specs.CheckedFile.{Linking, view_prop}
use Rattle.ev_graph.specs.declared.nodes.Node.{Node}
use Rattle.ev_inst.specs.Gathering.{AreOrderedNodes, ArePropsKnown}
use Rattle.ev_inst.proofs.Ready.{ordered, props_known}
use Rattle.ev_inst.proofs.making.instantiate.Goals as goal

pub gather_all-requires-clause-nodes : goal.gather_all-requires-clause-nodes
gather_all-requires-clause-nodes c =
    let placed = rw c.in-Some.is at c.in_ok-placed.ensures in
    subst (AreOrderedNodes c.args.topo.now) (sym c.deref.ensures.value)
    (ordered c.args.checked.now c.args.topo.now c.in-Some.placed.nodes.items
    c.in-Some.placed.engines.items placed)

pub gather_all-requires-clause-known : goal.gather_all-requires-clause-known
gather_all-requires-clause-known c =
    let placed = rw c.in-Some.is at c.in_ok-placed.ensures in
    subst (λ (ns : List Node). ArePropsKnown c.args.topo.now ns (map view_prop c.props.result.now))
    (sym c.deref.ensures.value)
    (subst (λ (ls : List Linking). ArePropsKnown c.args.topo.now c.in-Some.placed.nodes.items ls)
    (sym (ap (map view_prop) c.props.ensures.items))
    (props_known c.args.checked.now c.args.topo.now c.in-Some.placed.nodes.items
    c.in-Some.placed.engines.items placed c.props.ensures.lawful))
