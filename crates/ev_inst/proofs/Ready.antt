-- The nodes of a checked file are those that its patterns ask for.
use Rattle.std.proofs.Common.{◌≡◌, ◌<◌, ◌≤◌, ◌^◌, length, ℕ, true, false, List, map}
use Rattle.std.proofs.Common.{slice_get, Some}
use Rattle.std.proofs.Common.{sym, ap, ◌∙◌, subst, inl, inr, arith}
use Rattle.ev_graph.specs.Lawful.{GraphValue, IsGraph}
use Rattle.ev_inst.specs.Instances.{IsMadeOf}
use Rattle.ev_inst.specs.declared.gathered.Gathered.{Gathered}
use Rattle.fm_topo.specs.Topology.{Topology}
use Rattle.ev_tree.specs.Pattern.{Pattern}
use Rattle.ev_tree.specs.declared.tree.Declared.{Declared}
use Rattle.ev_check.specs.CheckedFile.{CheckedFile, view_prop}
use Rattle.ev_check.specs.Declarations.{is_alike, is_declared}
use Rattle.ev_check.specs.Lawful.{file_events, IsLawfulFile, IsLawfulLinking, IsLawfulPattern}
use Rattle.ev_check.specs.Lawful.{is_vertical_of, pattern_subject, spec_event}
use Rattle.ev_graph.specs.declared.nodes.EngineSpec.{EngineSpec}
use Rattle.ev_graph.specs.declared.nodes.Node.{Node}
use Rattle.ev_events.specs.Bindings.{patterns_of}
use Rattle.ev_events.proofs.Places.{any_found, get_map}
use Rattle.ev_events.specs.Nodes.{ArePlacedEvents, AreNodes}
use Rattle.ev_events.proofs.Wholeness.{alike_class, alike_names}
use Rattle.ev_inst.specs.Gathering.{AreOrderedNodes, ArePatternsKnown, ArePropsKnown, IsGathered}
use Rattle.ev_inst.proofs.Buildable.{all_at, append_at}

module _ (f : CheckedFile) (topology : Topology) (nodes : List Node) (engines : List EngineSpec)
    (nodes_are : AreNodes f topology engines nodes) where
  pub nodes_ordered : length nodes ≤ 65536 → AreOrderedNodes topology nodes
  nodes_ordered few = record {
    ascend = nodes_are.ascend;
    few = few;
    placed = λ i node s. let o = nodes_are.each i node s in (o.at.number, o.at.there);
  }

  known : (qs : List Pattern) → ((j : ℕ) (q : Pattern) → slice_get qs j ≡ Some q
      → is_declared (file_events f) (pattern_subject q) ≡ true)
      → ArePatternsKnown topology nodes qs
  known qs declared = record {
    each = λ j q at path s t names.
        let any = any_found (is_alike (pattern_subject q)) (file_events f) (declared j q s) in
        let e = get_map spec_event f.events any.0 any.1 any.2 in
        let class = alike_class (pattern_subject q) any.1 any.3 in
        let named = alike_names (pattern_subject q) any.1 any.3 in
        nodes_are.all any.0 e.0 (record { class = q.class; path = path }) e.1 (record {
          class = sym (ap (λ (d : Declared). d.class) e.2 ∙ class);
          number = at;
          there = t;
          named = names ∙ sym (ap (λ (d : Declared). d.names) e.2 ∙ named);
        });
  }

  pub nodes_known : IsLawfulFile f → ArePropsKnown topology nodes (map view_prop f.props)
  nodes_known lawful = record {
    each = λ j l s.
        let law = all_at (IsLawfulLinking (file_events f)) (map view_prop f.props) j l lawful.props
        s in
        known (patterns_of l) (λ k q at. elim (append_at l.left l.right k q at) [
          | inl own ↦
              (all_at (IsLawfulPattern (file_events f)
              (is_vertical_of l) true) l.left k q law.causes
              own).declared
          | inr other ↦
              (all_at (IsLawfulPattern (file_events f) (is_vertical_of l) false) l.right other.0 q
              law.effects other.1).declared
        ]);
  }

module _ (f : CheckedFile) (topology : Topology) (nodes : List Node) (engines : List EngineSpec)
    (placed : ArePlacedEvents f topology nodes engines) where
  pub ordered : AreOrderedNodes topology nodes
  ordered = nodes_ordered f topology nodes engines placed.nodes_are placed.few_nodes

  pub props_known : IsLawfulFile f → ArePropsKnown topology nodes (map view_prop f.props)
  props_known lawful = nodes_known f topology nodes engines placed.nodes_are lawful

  pub made_is : (g : Gathered) → IsGathered topology nodes (map view_prop f.props) g
      → g.skipped < 2 ^ 64 → (graph : GraphValue) → graph ≡ record {
        nodes = nodes;
        engines = engines;
        instances = g.instances.items;
      } → IsGraph graph → IsMadeOf f topology (record { graph = graph; skipped = g.skipped })
  made_is g gathered fits graph is is_graph =
      let to = gathered.to in
      let room = to.room in
      let whole : IsMadeOf f topology (record {
        graph = record { nodes = nodes; engines = engines; instances = g.instances.items };
        skipped = g.skipped;
      }) = record {
        graph = record {
          nodes = placed.nodes_are;
          engines = placed.engines_are;
          candidates = to.candidates;
          all = to.all;
          instances = to.instances_are;
          count = to.skipped_are;
        };
        few = omega (arith, room);
        is_graph = subst IsGraph is is_graph;
        few_engines = placed.few_engines;
        skipped_fits = fits;
      } in
      subst (λ (v : GraphValue). IsMadeOf f topology (record { graph = v; skipped = g.skipped }))
      (sym is) whole
