use Rattle.std.proofs.Common.{rules, ap, arith, length}
use Rattle.std.proofs.lemmas.Bool.{and_parts}
use Rattle.std.proofs.lemmas.Fn.{always_returns_same}
use Rattle.fm_name.specs.Events.{event_cmp}
use Rattle.ev_graph.specs.declared.nodes.Node.{Node}
use Rattle.ev_incidence.specs.Sets.{ascends_by}
use Rattle.ev_graph.specs.Lawful.{is_before_node}
use Rattle.ev_graph.proofs.Building.{name_found, names_rise, name_missing}
use Rattle.ev_graph.proofs.graph.Graph.find.Goals as goal

pub returns-in-Ok-clause-found : goal.returns-in-Ok-clause-found
returns-in-Ok-clause-found c =
    let name = c.args.name.now in
    let p = c.in-Ok.ensures.position (λ (node : Node). event_cmp node.name name)
    (always_returns_same _ _ _ (λ a r q k. search rules)) in
    rw (← c.self.view_is) (name_found c.self.inside.nodes.items name c.in-Ok.at
    (omega (arith, c.in-Ok.ensures.bound, ap length c.deref.ensures.value))
    (rw c.deref.ensures.value at p))

pub returns-in-Err-clause-found : goal.returns-in-Err-clause-found
returns-in-Err-clause-found c =
    let name = c.args.name.now in
    let nodes = c.self.inside.nodes.items in
    let up = (and_parts (ascends_by is_before_node nodes) _
    c.self.invariant.graph.counted.kindred.numbered.sorted.ascending).0 in
    let p = rw c.deref.ensures.value at
    (c.in-Err.ensures.position (λ (node : Node). event_cmp node.name name)
    (always_returns_same _ _ _ (λ a r q k. search rules))) in
    rw (← c.self.view_is) (name_missing nodes name c.in-Err.field-0 (p (names_rise nodes name up)))
