-- A search in event order finds the node where it is.
use Rattle.std.proofs.Common.{rules, arith}
use Rattle.std.proofs.lemmas.Fn.{always_returns_same}
use Rattle.fm_name.specs.Events.{event_cmp}
use Rattle.fm_name.specs.declared.events.EventName.{EventName}
use Rattle.ev_graph.specs.declared.nodes.Node.{Node}
use Rattle.ev_graph.proofs.Building.{name_found, name_missing, names_rise}
use Rattle.ev_inst.proofs.Numbering.{name_there, named_at}
use Rattle.ev_inst.proofs.numbers.find_node.Goals as goal

pub returns-in-Ok : goal.returns-in-Ok
unfolding event_cmp
returns-in-Ok c =
    let name : EventName = record { class = c.args.class.now; path = c.args.path.now } in
    let p = c.in-Ok.ensures.position (λ (node : Node). event_cmp node.name name)
    (always_returns_same _ _ _ (λ a r q k. search rules)) in
    named_at c.args.nodes.now c.in-Ok.at name
    (name_found c.args.nodes.now name c.in-Ok.at (omega (arith, c.in-Ok.ensures.bound)) p)

pub returns-in-Err : goal.returns-in-Err
unfolding event_cmp
returns-in-Err c =
    let name : EventName = record { class = c.args.class.now; path = c.args.path.now } in
    let p = c.in-Err.ensures.position (λ (node : Node). event_cmp node.name name)
    (always_returns_same _ _ _ (λ a r q k. search rules)) in
    λ at h.
    name_missing c.args.nodes.now name c.in-Err.field-0 (p (names_rise c.args.nodes.now name
    c.requires)) at (name_there c.args.nodes.now at name h)
