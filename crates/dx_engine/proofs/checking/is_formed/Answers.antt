use Rattle.std.proofs.Common.{◌≡◌, ◌∙◌, ap, sym, length, nat_lt, Bool, ◌&&◌, ◌^◌, true}
use Rattle.std.specs.List.{list_all}
use Rattle.fm_entry.specs.Words.{event_fits}
use Rattle.dx_engine.proofs.Forming.{formed_graph}
use Rattle.dx_engine.proofs.checking.is_formed.Goals as goal

pub returns-then-names_fit : goal.returns-then-names_fit
returns-then-names_fit c =
    let g = c.args.graph.now in
    let names : list_all (λ node. event_fits node.name) g.nodes ≡ true =
    sym (c.names_fit.ensures ∙ ap (list_all (λ node. event_fits node.name)) c.nodes.ensures.nodes)
    ∙ c.if-names_fit.true in
    ap (λ es. nat_lt (length es) (2 ^ 32)) c.engines.ensures.engines
    ∙ sym (formed_graph g c.engines.ensures.graph
    ∙ ap (λ (b : Bool). b && nat_lt (length g.engines) (2 ^ 32)) names)
