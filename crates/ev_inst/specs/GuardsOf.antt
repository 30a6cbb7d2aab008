-- The guards of the graph that a rule file comes to.
use Rattle.std.specs.Prelude.{◌≡◌, ℕ, List, slice_get, map}
use Rattle.fm_topo.specs.Topology.{Topology}
use Rattle.ev_check.specs.CheckedFile.{CheckedFile, view_prop}
use Rattle.ev_expr.specs.declared.settings.Prop.{Prop}
use Rattle.ev_graph.specs.Lawful.{GraphValue, links}
use Rattle.ev_incidence.specs.Sets.{is_member}
use Rattle.ev_inst.specs.Guarding.{broken_at, derivations, guarded_at, links_guarded}
use Rattle.ev_inst.specs.Instances.{AreCandidatesOf, IsGraphOf, instances_of_all}
use Rattle.ev_guards.specs.Guards.{AreGuardsFor, GuardsValue, broken_by, guarded_links, is_guarded}

-- The guards of the graph that a rule file comes to over a topology: just the guarded links, in
-- order of node and then of instance, and for each payload just those that it breaks.
pub record AreGuardsOf (f : CheckedFile) (topology : Topology) (g : GraphValue)
    (v : GuardsValue) : Type 0 where
  pub candidates : List (List (List ℕ))
  pub all : AreCandidatesOf topology (map view_prop f.props) candidates
  pub instances : g.instances
      ≡ instances_of_all topology g.nodes (map view_prop f.props) candidates
  pub guarded : (i e : ℕ) → is_guarded v i e ≡ is_member (guarded_at topology
      (derivations topology g.nodes (map view_prop f.props) candidates)
      (slice_get g.nodes e)) i
  pub broken : (e : ℕ) (props : List Prop) → broken_by v e props ≡ broken_at topology
      (derivations topology g.nodes (map view_prop f.props) candidates) props
      (slice_get g.nodes e)
  pub links : guarded_links v ≡ links_guarded topology
      (derivations topology g.nodes (map view_prop f.props) candidates) 0 g.nodes
  pub fits : AreGuardsFor g v

-- the graph is that of the file over the topology
pub record IsInstantiated (f : CheckedFile) (topology : Topology) (g : GraphValue) : Type 0 where
  pub skipped : ℕ
  pub is : IsGraphOf f topology g skipped
