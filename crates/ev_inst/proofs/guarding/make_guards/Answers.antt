-- What is gathered are the guards of the graph.
use Rattle.std.proofs.Common.{List, map, sym, ap, subst}
use Rattle.ev_check.specs.CheckedFile.{Linking, view_prop}
use Rattle.ev_graph.specs.declared.nodes.Node.{Node}
use Rattle.ev_inst.specs.Asked.{AreAllGuards}
use Rattle.ev_inst.specs.Gathering.{AreOrderedNodes, ArePropsKnown}
use Rattle.ev_inst.specs.GuardsOf.{AreGuardsOf}
use Rattle.ev_inst.proofs.GuardLaws.{guards_of}
use Rattle.ev_inst.proofs.Ready.{nodes_known, nodes_ordered}
use Rattle.ev_inst.proofs.guarding.make_guards.Goals as goal

pub guards_of_all-requires-clause-nodes : goal.guards_of_all-requires-clause-nodes
guards_of_all-requires-clause-nodes c =
    let g = c.args.graph.now in
    subst (AreOrderedNodes c.args.topo) (sym c.nodes.ensures.nodes)
    (nodes_ordered c.args.checked.now c.args.topo g.nodes g.engines c.requires.is.nodes
    c.nodes.ensures.graph.counted.kindred.numbered.sorted.small.few_nodes)

pub guards_of_all-requires-clause-known : goal.guards_of_all-requires-clause-known
guards_of_all-requires-clause-known c =
    let g = c.args.graph.now in
    subst (λ (ns : List Node). ArePropsKnown c.args.topo ns (map view_prop c.props.result.now))
    (sym c.nodes.ensures.nodes)
    (subst (λ (ls : List Linking). ArePropsKnown c.args.topo g.nodes ls)
    (sym (ap (map view_prop) c.props.ensures.items))
    (nodes_known c.args.checked.now c.args.topo g.nodes g.engines c.requires.is.nodes
    c.props.ensures.lawful))

pub returns : goal.returns
returns c =
    let g = c.args.graph.now in
    let all = c.in_ok-all.all in
    subst (AreGuardsOf c.args.checked.now c.args.topo g) (sym c.new.ensures)
    (guards_of c.args.checked.now c.args.topo g c.requires all
    (subst (λ (ns : List Node).
    AreAllGuards c.args.topo ns (map view_prop c.args.checked.now.props) all)
    c.nodes.ensures.nodes
    (subst (λ (ls : List Linking). AreAllGuards c.args.topo c.nodes.result.now ls all)
    (ap (map view_prop) c.props.ensures.items) c.in_ok-all.ensures)))
