-- How the instances of a propagation are gathered, candidate by candidate.
use Rattle.std.specs.Prelude.{◌≡◌, ◌≤◌, ◌+◌, ◌++◌, ◌&&◌, ◌==◌, ℕ, Bool, true, false, List, []}
use Rattle.std.specs.Prelude.{◌∷◌, map}
use Rattle.std.specs.Prelude.{Option, Some, None, length, slice_get, filter, count_by, sum_by}
use Rattle.std.specs.List.{list_any}
use Rattle.std.specs.Map.{keys_of}
use Rattle.fm_name.specs.Path.{names_of}
use Rattle.fm_name.specs.declared.events.EventName.{EventName}
use Rattle.fm_topo.specs.Topology.{Topology}
use Rattle.ev_tree.specs.Pattern.{Pattern}
use Rattle.ev_check.specs.CheckedFile.{Linking}
use Rattle.ev_check.specs.Declarations.{name_of}
use Rattle.ev_words.specs.Iterators.{same_name}
use Rattle.ev_join.specs.Tables.{TableValue}
use Rattle.ev_graph.specs.Lawful.{is_before_node, links}
use Rattle.ev_incidence.specs.Sets.{ascends_by}
use Rattle.ev_graph.specs.declared.nodes.Node.{Node}
use Rattle.ev_events.specs.Names.{iterators}
use Rattle.ev_events.specs.Fits.{fitting}
use Rattle.ev_events.specs.Bindings.{candidate_links, patterns_of}
use Rattle.ev_events.specs.Sheets.{AreTablesOf}
use Rattle.ev_events.specs.Nodes.{node_name}
use Rattle.ev_events.specs.Placed.{IsAmongNames}
use Rattle.ev_inst.specs.Instances.{AreCandidatesOf, instances_of_all, skipped_of_all}
use Rattle.ev_inst.specs.Instances.{links_of_all}
use Rattle.ev_inst.specs.Outcomes.{instance_of, is_dropped, is_event_among, is_made, is_skipped}
use Rattle.ev_inst.specs.declared.outcomes.Outcome.{Outcome}
use Rattle.ev_inst.specs.declared.outcomes.Outcome.TheVariants.{Dropped, Made, Skipped}
use Rattle.ev_inst.specs.declared.gathered.Gathered.{Gathered}

-- nodes at paths of the topology, in event order, at most 65,536
pub record AreOrderedNodes (topology : Topology) (nodes : List Node) : Type 0 where
  pub ascend : ascends_by is_before_node nodes ≡ true
  pub few : length nodes ≤ 65536
  pub placed : (i : ℕ) (node : Node) → slice_get nodes i ≡ Some node
      → (at : ℕ) × (slice_get (keys_of topology) at ≡ Some node.name.path)

-- the name is of the class, at the path
abbrev pub is_at_path : List ℕ → Option (List ℕ) → Option EventName → Bool
is_at_path class (Some path) (Some name) = same_name name.class class && same_name name.path path
is_at_path class _ _ = false

-- the node of a number is of the class, at the path of a number
abbrev pub is_node_at : Topology → List Node → List ℕ → ℕ → ℕ → Bool
is_node_at topology nodes class n at =
    is_at_path class (slice_get (keys_of topology) at) (slice_get (map node_name nodes) n)

-- at one of the paths of these numbers
abbrev pub is_node_on : Topology → List Node → List ℕ → List ℕ → ℕ → Bool
is_node_on topology nodes class ats n = list_any (is_node_at topology nodes class n) ats

-- each number is that of a path, at which a node of the class is
pub record AreOnPaths (topology : Topology) (nodes : List Node) (class : List ℕ)
    (ats : List ℕ) : Type 0 where
  pub each : (j at : ℕ) → slice_get ats j ≡ Some at → (path : List ℕ)
      × (slice_get (keys_of topology) at ≡ Some path)
      × IsAmongNames (map node_name nodes) (record { class = class; path = path })

-- each pattern's class has a node at each path with the pattern's names
pub record ArePatternsKnown (topology : Topology) (nodes : List Node) (qs : List Pattern) :
    Type 0 where
  pub each : (j : ℕ) (q : Pattern) (at : ℕ) (path : List ℕ) → slice_get qs j ≡ Some q
      → slice_get (keys_of topology) at ≡ Some path → names_of path ≡ map name_of q.parts
      → IsAmongNames (map node_name nodes) (record { class = q.class; path = path })

-- what stands at a place is there and passes a test
abbrev pub some_passes : {X : Type 0} → (X → Bool) → Option X → Bool
some_passes test None = false
some_passes test (Some x) = test x

-- it is an event of one of the patterns
abbrev pub is_event_number : Topology → List Node → List (List ℕ) → List ℕ → List Pattern → ℕ
    → Bool
is_event_number topology nodes vs b qs n =
    some_passes (is_event_among topology vs b qs) (slice_get nodes n)

-- the fitting paths of patterns, counted
abbrev pub fitting_links : Topology → List (List ℕ) → List ℕ → List Pattern → ℕ
fitting_links topology vs b qs = sum_by (λ q. length (fitting topology vs b q.parts)) qs

-- the numbers are those of the events of the patterns, and no more than their fitting paths
pub record AreEventNumbers (topology : Topology) (nodes : List Node) (vs : List (List ℕ))
    (b : List ℕ) (qs : List Pattern) (found : List ℕ) : Type 0 where
  pub members : (n : ℕ) → list_any (λ x. x == n) found
      ≡ is_event_number topology nodes vs b qs n
  pub few : length found ≤ fitting_links topology vs b qs

-- all that the outcome of a candidate rests on
pub record IsSideReady (topology : Topology) (nodes : List Node) (vs : List (List ℕ))
    (b : List ℕ) (qs : List Pattern) (ts : List TableValue) : Type 0 where
  pub nodes_are : AreOrderedNodes topology nodes
  pub full : length b ≡ length vs
  pub tables : AreTablesOf topology vs qs ts
  pub known : ArePatternsKnown topology nodes qs

pub record IsReady (topology : Topology) (nodes : List Node) (l : Linking) (ts : List TableValue) :
    Type 0 where
  pub nodes_are : AreOrderedNodes topology nodes
  pub tables : AreTablesOf topology (iterators l) (patterns_of l) ts
  pub known : ArePatternsKnown topology nodes (patterns_of l)

-- what becomes of a candidate
abbrev pub IsOutcome : Topology → List Node → Linking → List ℕ → Outcome → Type 0
IsOutcome topology nodes l b Dropped = is_dropped topology l b ≡ true
IsOutcome topology nodes l b Skipped = is_skipped topology nodes l b ≡ true
IsOutcome topology nodes l b (Made i) =
    (is_made topology nodes l b ≡ true) × (i ≡ instance_of topology nodes l b)

-- an instance has no more causes and effects than its candidate has links
abbrev pub outcome_links : Outcome → ℕ
outcome_links (Made i) = length i.causes + length i.effects
outcome_links _ = 0

-- the outcomes of these candidates were added
pub record AddsCandidates (topology : Topology) (nodes : List Node) (l : Linking)
    (bs : List (List ℕ)) (old new : Gathered) : Type 0 where
  pub instances_are : new.instances.items ≡ old.instances.items
      ++ map (instance_of topology nodes l) (filter (is_made topology nodes l) bs)
  pub skipped_are : new.skipped ≡ old.skipped + count_by (is_skipped topology nodes l) bs
  pub few : links new.instances.items
      ≤ links old.instances.items + sum_by (candidate_links topology l) bs

-- one outcome was added
abbrev pub AddsOutcome : Outcome → Gathered → Gathered → Type 0
AddsOutcome Dropped old new = (new.instances.items ≡ old.instances.items)
    × (new.skipped ≡ old.skipped)
AddsOutcome Skipped old new = (new.instances.items ≡ old.instances.items)
    × (new.skipped ≡ old.skipped + 1)
AddsOutcome (Made i) old new = (new.instances.items ≡ old.instances.items ++ i ∷ [])
    × (new.skipped ≡ old.skipped)

-- each pattern of each propagation is known
pub record ArePropsKnown (topology : Topology) (nodes : List Node) (ls : List Linking) :
    Type 0 where
  pub each : (j : ℕ) (l : Linking) → slice_get ls j ≡ Some l
      → ArePatternsKnown topology nodes (patterns_of l)

-- these are the instances and the number of skipped candidates of all propagations, whose
-- candidates leave so much of the limit on links
pub record IsGatheredTo (topology : Topology) (nodes : List Node) (ls : List Linking)
    (left : ℕ) (gathered : Gathered) : Type 0 where
  pub candidates : List (List (List ℕ))
  pub all : AreCandidatesOf topology ls candidates
  pub instances_are : gathered.instances.items ≡ instances_of_all topology nodes ls candidates
  pub skipped_are : gathered.skipped ≡ skipped_of_all topology nodes ls candidates
  pub room : left + links_of_all topology ls candidates ≡ 1048576
  pub few : left + links gathered.instances.items ≤ 1048576

pub record IsGathered (topology : Topology) (nodes : List Node) (ls : List Linking)
    (gathered : Gathered) : Type 0 where
  pub left : ℕ
  pub to : IsGatheredTo topology nodes ls left gathered
