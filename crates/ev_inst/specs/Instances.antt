-- The graph of a rule file over a topology, and the number of the candidates that are skipped.
use Rattle.std.specs.Prelude.{◌≡◌, ◌<◌, ◌≤◌, ◌+◌, ◌^◌, ◌++◌, length, ℕ, List, [], ◌∷◌, map}
use Rattle.std.specs.Prelude.{count_by, filter, sum_by}
use Rattle.fm_topo.specs.Topology.{Topology}
use Rattle.ev_check.specs.CheckedFile.{CheckedFile, Linking, view_prop}
use Rattle.ev_graph.specs.Lawful.{GraphValue, IsCountedGraph, IsGraph}
use Rattle.ev_incidence.specs.Wiring.{ReachesItself}
use Rattle.ev_graph.specs.Wired.{wiring}
use Rattle.ev_graph.specs.declared.nodes.Node.{Node}
use Rattle.ev_graph.specs.declared.instances.Instance.{Instance}
use Rattle.ev_events.specs.Bindings.{AreAllBindings, AreBindings, candidate_links}
use Rattle.ev_events.specs.Nodes.{AreNodes, AreEngines}
use Rattle.ev_events.specs.Placed.{AreMore}
use Rattle.ev_check.specs.Lawful.{file_events}
use Rattle.ev_graph.specs.declared.nodes.EngineSpec.{EngineSpec}
use Rattle.ev_file.specs.declared.made.Made.{Made}
use Rattle.ev_inst.specs.declared.fault.InstFault.{InstFault}
use Rattle.ev_inst.specs.declared.fault.InstFault.TheVariants.{Nodes, Links, NoMemory}
use Rattle.ev_inst.specs.Outcomes.{instance_of, is_made, is_skipped}

-- the candidates of each propagation, in order
abbrev pub AreCandidatesOf : Topology → List Linking → List (List (List ℕ)) → Type 0
AreCandidatesOf topology [] [] = Unit {0}
AreCandidatesOf topology (l ∷ ls) (bs ∷ more) =
    AreAllBindings topology l bs × AreCandidatesOf topology ls more
AreCandidatesOf topology _ _ = ⊥

-- the instances of propagations, in order of statements and bindings
abbrev pub instances_of_all : Topology → List Node → List Linking → List (List (List ℕ))
    → List Instance
instances_of_all topology nodes (l ∷ ls) (bs ∷ more) =
    map (instance_of topology nodes l) (filter (is_made topology nodes l) bs)
    ++ instances_of_all topology nodes ls more
instances_of_all topology nodes _ _ = []

abbrev pub skipped_of_all : Topology → List Node → List Linking → List (List (List ℕ)) → ℕ
skipped_of_all topology nodes (l ∷ ls) (bs ∷ more) =
    count_by (is_skipped topology nodes l) bs + skipped_of_all topology nodes ls more
skipped_of_all topology nodes _ _ = 0

-- the candidate links of all propagations
abbrev pub links_of_all : Topology → List Linking → List (List (List ℕ)) → ℕ
links_of_all topology (l ∷ ls) (bs ∷ more) =
    sum_by (candidate_links topology l) bs + links_of_all topology ls more
links_of_all topology _ _ = 0

-- the graph of a rule file: every declared event at every path with its names, the engines, and all
-- instances of all propagations, no other
pub record IsGraphOf (f : CheckedFile) (topology : Topology) (g : GraphValue) (skipped : ℕ) :
    Type 0 where
  pub nodes : AreNodes f topology g.engines g.nodes
  pub engines : AreEngines f topology g.nodes g.engines
  pub candidates : List (List (List ℕ))
  pub all : AreCandidatesOf topology (map view_prop f.props) candidates
  pub instances : g.instances
      ≡ instances_of_all topology g.nodes (map view_prop f.props) candidates
  pub count : skipped ≡ skipped_of_all topology g.nodes (map view_prop f.props) candidates

-- some candidates of each propagation, each once
abbrev pub AreSomeCandidatesOf : Topology → List Linking → List (List (List ℕ)) → Type 0
AreSomeCandidatesOf topology [] [] = Unit {0}
AreSomeCandidatesOf topology (l ∷ ls) (bs ∷ more) =
    AreBindings topology l bs × AreSomeCandidatesOf topology ls more
AreSomeCandidatesOf topology _ _ = ⊥

-- candidates of the propagations have more links than a limit
pub record HaveMoreLinks (topology : Topology) (ls : List Linking) (limit : ℕ) : Type 0 where
  pub candidates : List (List (List ℕ))
  pub some : AreSomeCandidatesOf topology ls candidates
  pub many : limit < links_of_all topology ls candidates

-- The graph of a rule file, whose candidates have no more links than 1,048,576. It is one without
-- a cycle and has fewer than 2 ^ 32 engines, and fewer than 2 ^ 64 candidates are skipped.
pub record IsMadeOf (f : CheckedFile) (topology : Topology) (made : Made) : Type 0 where
  pub graph : IsGraphOf f topology made.graph made.skipped
  pub few : links_of_all topology (map view_prop f.props) graph.candidates ≤ 1048576
  pub is_graph : IsGraph made.graph
  pub few_engines : length made.graph.engines < 2 ^ 32
  pub skipped_fits : made.skipped < 2 ^ 64

-- why there is none: there are more events than 65,536; or there are not, and the candidates have
-- more links than 1,048,576
abbrev pub IsInstFault : CheckedFile → Topology → InstFault → Type 0
IsInstFault f topology Nodes = AreMore topology (file_events f) 65536
IsInstFault f topology Links = (ns : List Node) × (engines : List EngineSpec)
    × AreNodes f topology engines ns × (length ns ≤ 65536)
    × HaveMoreLinks topology (map view_prop f.props) 1048576
IsInstFault f topology NoMemory = Unit {0}

-- a graph can be built: it is sorted, in range, of fitting kinds and counts, and has no cycle
pub record IsBuildable (g : GraphValue) : Type 0 where
  pub counted : IsCountedGraph g
  pub acyclic : ReachesItself (wiring g.instances) → ⊥
