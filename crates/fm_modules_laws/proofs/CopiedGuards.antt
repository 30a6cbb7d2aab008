-- The guards of a copy of a checked file are those of the file.
use Rattle.std.proofs.Common.{List, ap, ◌∙◌, subst, slice_get}
use Rattle.fm_topo.specs.Topology.{Topology}
use Rattle.ev_check.specs.CheckedFile.{CheckedFile, IsCopyOf, Linking}
use Rattle.ev_graph.specs.Lawful.{GraphValue}
use Rattle.ev_incidence.specs.Sets.{is_member}
use Rattle.ev_inst.specs.Guarding.{broken_at, derivations, guarded_at, links_guarded}
use Rattle.ev_inst.specs.GuardsOf.{AreGuardsOf}
use Rattle.ev_guards.specs.Guards.{GuardsValue}
use Rattle.ev_inst.specs.Instances.{AreCandidatesOf, instances_of_all}

pub guards_of_copy : (f copy : CheckedFile) (topology : Topology) (g : GraphValue)
    (v : GuardsValue) → IsCopyOf f copy → AreGuardsOf copy topology g v
    → AreGuardsOf f topology g v
guards_of_copy f copy topology g v same h = record {
  candidates = h.candidates;
  all = subst (λ (ls : List Linking). AreCandidatesOf topology ls h.candidates) same.props_are
      h.all;
  instances =
      h.instances
      ∙ ap (λ (ls : List Linking). instances_of_all topology g.nodes ls h.candidates)
      same.props_are;
  guarded = λ i e. h.guarded i e
      ∙ ap (λ (ls : List Linking). is_member (guarded_at topology
      (derivations topology g.nodes ls h.candidates) (slice_get g.nodes e)) i) same.props_are;
  broken = λ e props. h.broken e props
      ∙ ap (λ (ls : List Linking). broken_at topology
      (derivations topology g.nodes ls h.candidates) props (slice_get g.nodes e)) same.props_are;
  links =
      h.links
      ∙ ap (λ (ls : List Linking). links_guarded topology
      (derivations topology g.nodes ls h.candidates) 0 g.nodes) same.props_are;
  fits = h.fits;
}
