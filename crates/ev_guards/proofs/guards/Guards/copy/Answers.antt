use Rattle.std.proofs.Common.{◌∙◌, ap, map, subst}
use Rattle.ev_guards.specs.Watched.{view_node}
use Rattle.ev_guards.specs.Guards.{GuardAlike, GuardsValue}
use Rattle.ev_guards.proofs.GuardsAlike.{alike}
use Rattle.ev_guards.proofs.guards.Guards.copy.Goals as goal

pub returns : goal.returns
returns c =
    let copy : GuardsValue = record {
      topology = c.in_ok-topo.topo;
      nodes = c.in_ok-nodes.nodes.items;
    } in
    subst (λ (v : GuardsValue). GuardAlike v copy) c.self.view_is
    (alike (record { topology = c.self.inside.topo; nodes = c.self.inside.nodes.items }) copy
    c.in_ok-topo.ensures.same
    (c.in_ok-nodes.ensures ∙ ap (map view_node) c.as_slice.ensures.value))
