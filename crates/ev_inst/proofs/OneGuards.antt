-- The guards of one graph are alike.
use Rattle.std.proofs.Common.{◌≡◌, ℕ, List, map, slice_get, sym, ap, ◌∙◌}
use Rattle.fm_topo.specs.Topology.{Topology}
use Rattle.ev_check.specs.CheckedFile.{CheckedFile, view_prop}
use Rattle.ev_graph.specs.Lawful.{GraphValue}
use Rattle.ev_inst.specs.Guarding.{broken_at, derivations, links_guarded}
use Rattle.ev_inst.specs.GuardsOf.{AreGuardsOf}
use Rattle.ev_guards.specs.Guards.{GuardAlike, GuardsValue}
use Rattle.ev_inst.proofs.Deriving.{same_candidates}

pub guards_alike : (f : CheckedFile) (topology : Topology) (g : GraphValue) (v w : GuardsValue)
    → AreGuardsOf f topology g v → AreGuardsOf f topology g w → GuardAlike v w
guards_alike f topology g v w a b =
    let ls = map view_prop f.props in
    let same : b.candidates ≡ a.candidates =
    same_candidates topology ls b.candidates a.candidates b.all a.all in
    record {
      links =
          b.links
          ∙ ap (λ (cs : List (List (List ℕ))).
          links_guarded topology (derivations topology g.nodes ls cs) 0 g.nodes) same
          ∙ sym a.links;
      broken = λ e props. b.broken e props
          ∙ ap (λ (cs : List (List (List ℕ))). broken_at topology
          (derivations topology g.nodes ls cs) props (slice_get g.nodes e)) same
          ∙ sym (a.broken e props);
    }
