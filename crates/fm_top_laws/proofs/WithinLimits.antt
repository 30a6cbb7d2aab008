-- A rule file that comes to a graph over a topology is not past a limit, and no copy of it is.
use Rattle.std.proofs.Common.{◌≡◌, inl, inr, ℕ, zero, suc, ◌≤◌, List, [], ◌∷◌, map}
use Rattle.std.proofs.Common.{slice_get, Some, refl, sym, ◌∙◌, ap, subst, arith}
use Rattle.std.proofs.lemmas.Bool.{cases_order}
use Rattle.std.proofs.lemmas.Option.{none-some, same_Some}
use Rattle.fm_topo.specs.Topology.{Topology}
use Rattle.ev_check.specs.CheckedFile.{CheckedFile, IsCopyOf, Linking, view_prop}
use Rattle.ev_check.specs.Lawful.{file_events, spec_event}
use Rattle.ev_check.specs.declared.checked.EventSpec.{EventSpec}
use Rattle.ev_events.proofs.Declaring.{map_long}
use Rattle.ev_events.proofs.Places.{get_map}
use Rattle.ev_events.specs.Bindings.{AreAllBindings, AreBindings, candidate_links}
use Rattle.ev_events.specs.Nodes.{AreNodes, node_name}
use Rattle.ev_events.specs.Placed.{AreMore, IsDeclaredAt}
use Rattle.ev_file.specs.declared.made.Made.{Made}
use Rattle.ev_graph.specs.declared.nodes.EngineSpec.{EngineSpec}
use Rattle.ev_graph.specs.declared.nodes.Node.{Node}
use Rattle.ev_inst.proofs.Numbering.{once}
use Rattle.ev_inst.specs.Instances.{AreCandidatesOf, AreSomeCandidatesOf, HaveMoreLinks}
use Rattle.ev_inst.specs.Instances.{IsInstFault, IsMadeOf, links_of_all}
use Rattle.ev_inst.specs.declared.fault.InstFault.TheVariants.{Links, Nodes}
use Rattle.ev_join.proofs.Ordering.{not_before_itself}
use Rattle.fm_esc.specs.Compiling.{AreGraphs, IsFirstPast, IsPastLimit}
use Rattle.fm_esc.specs.declared.faults.GraphLimit.{GraphLimit}
use Rattle.fm_esc.specs.declared.faults.GraphLimit.TheVariants.{Nodes as GraphNodes}
use Rattle.fm_esc.specs.declared.faults.GraphLimit.TheVariants.{Links as GraphLinks}
use Rattle.fm_sources.specs.declared.files.RuleFile.{RuleFile}
use Rattle.fm_top_laws.proofs.Fewer.{StandIn, StandOnce, no_longer, weighs_less}

-- ---- events

-- names of declared events are names of nodes
more_within : (f copy : CheckedFile) (topo : Topology) (ns : List Node) (es : List EngineSpec)
    (limit : ℕ) → IsCopyOf f copy → AreNodes f topo es ns
    → (more : AreMore topo (file_events copy) limit) → StandIn more.names (map node_name ns)
more_within f copy topo ns es limit same nodes more i name there =
    let declared = more.each i name there in
    let spec = get_map spec_event copy.events declared.0 declared.1.declared declared.1.stands in
    let found = nodes.all declared.0 spec.0 name
    (ap (λ (l : List EventSpec). slice_get l declared.0) (sym same.events_are) ∙ spec.1)
    (subst (λ d. IsDeclaredAt topo d name) (sym spec.2) declared.1.at) in
    (found.place, found.stands)

nodes_within : (f copy : CheckedFile) (topo : Topology) (made : Made) → IsCopyOf f copy
    → IsMadeOf f topo made → AreMore topo (file_events copy) 65536 → ⊥
nodes_within f copy topo made same is more =
    omega (
      arith,
      more.many,
      no_longer more.names (map node_name made.graph.nodes) (once more.names more.ascend)
          (more_within f copy topo made.graph.nodes made.graph.engines 65536 same is.graph.nodes
          more),
      map_long node_name made.graph.nodes,
      is.is_graph.counted.kindred.numbered.sorted.small.few_nodes,
    )

-- ---- candidate links

bindings_once : (topo : Topology) (l : Linking) (bs : List (List ℕ)) → AreBindings topo l bs
    → StandOnce bs
bindings_once topo l bs are i j b s t =
    elim (cases_order i j) [
      | inl same ↦ same
      | inr (inl less) ↦ absurd (are.ascend i j b b less s t (not_before_itself b))
      | inr (inr more) ↦ absurd (are.ascend j i b b more t s (not_before_itself b))
    ]

bindings_within : (topo : Topology) (l : Linking) (bs all : List (List ℕ))
    → AreBindings topo l bs → AreAllBindings topo l all → StandIn bs all
bindings_within topo l bs all some are i b there =
    let among = are.all b (some.each i b there) in (among.place, among.stands)

links_within : (topo : Topology) (ls : List Linking) (some all : List (List (List ℕ)))
    → AreSomeCandidatesOf topo ls some → AreCandidatesOf topo ls all
    → links_of_all topo ls some ≤ links_of_all topo ls all
links_within topo [] [] [] some all = omega arith
links_within topo [] [] (c ∷ cs) some all = absurd all
links_within topo [] (b ∷ bs) all some are = absurd some
links_within topo (l ∷ ls) [] all some are = absurd some
links_within topo (l ∷ ls) (b ∷ bs) [] some all = absurd all
links_within topo (l ∷ ls) (b ∷ bs) (c ∷ cs) some all =
    omega (
      arith,
      weighs_less (candidate_links topo l) b c (bindings_once topo l b some.0)
          (bindings_within topo l b c some.0 all.0),
      links_within topo ls bs cs some.1 all.1,
    )

more_links : (f copy : CheckedFile) (topo : Topology) (made : Made) → IsCopyOf f copy
    → IsMadeOf f topo made → HaveMoreLinks topo (map view_prop copy.props) 1048576 → ⊥
more_links f copy topo made same is more =
    let own : HaveMoreLinks topo (map view_prop f.props) 1048576 =
    subst (λ (ls : List Linking). HaveMoreLinks topo ls 1048576) same.props_are more in
    omega (
      arith,
      own.many,
      links_within topo (map view_prop f.props) own.candidates is.graph.candidates own.some
          is.graph.all,
      is.few,
    )

pub nodes_in_limit : (f copy : CheckedFile) (topo : Topology) (made : Made) → IsCopyOf f copy
    → IsMadeOf f topo made → IsInstFault copy topo Nodes → ⊥
nodes_in_limit f copy topo made same is more = nodes_within f copy topo made same is more

pub links_in_limit : (f copy : CheckedFile) (topo : Topology) (made : Made) → IsCopyOf f copy
    → IsMadeOf f topo made → IsInstFault copy topo Links → ⊥
links_in_limit f copy topo made same is (ns, engines, nodes, few, more) =
    more_links f copy topo made same is more

-- ---- rule files

own_copy : (f : CheckedFile) → IsCopyOf f f
own_copy f = record { events_are = refl; engines_are = refl; props_are = refl }

graph_within : (f : CheckedFile) (topo : Topology) (made : Made) (limit : GraphLimit)
    → IsMadeOf f topo made → IsPastLimit limit f topo → ⊥
graph_within f topo made GraphNodes is past = nodes_in_limit f f topo made (own_copy f) is past
graph_within f topo made GraphLinks is past = links_in_limit f f topo made (own_copy f) is past

graphs_within : (topo : Topology) (files : List RuleFile) (mades : List Made) (at : ℕ)
    (file : RuleFile) (limit : GraphLimit) → AreGraphs topo files mades
    → slice_get files at ≡ Some file → IsPastLimit limit file.checked topo → ⊥
graphs_within topo [] [] at file limit graphs there past = none-some file there
graphs_within topo [] (made ∷ mades) at file limit graphs there past = absurd graphs
graphs_within topo (f ∷ files) [] at file limit graphs there past = absurd graphs
graphs_within topo (f ∷ files) (made ∷ mades) zero file limit graphs there past =
    graph_within f.checked topo made limit graphs.0
    (subst (λ (r : RuleFile). IsPastLimit limit r.checked topo) (sym (same_Some f file there)) past)
graphs_within topo (f ∷ files) (made ∷ mades) (suc at) file limit graphs there past =
    graphs_within topo files mades at file limit graphs.1 there past

-- where all rule files come to graphs, none is the first past a limit
pub none_past : (topo : Topology) (files : List RuleFile) (mades : List Made) (at : ℕ)
    (limit : GraphLimit) → AreGraphs topo files mades → IsFirstPast topo files at limit → ⊥
none_past topo files mades at limit graphs first =
    graphs_within topo files mades at first.file limit graphs first.there first.past
