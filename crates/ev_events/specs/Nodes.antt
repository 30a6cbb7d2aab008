-- The nodes and engines of a graph: every declared event, and every declared engine, at every path
-- of the topology with its names.
use Rattle.std.specs.Prelude.{◌≡◌, ◌≤◌, ◌<◌, ◌^◌, ℕ, true, List, map, Some, None, slice_get}
use Rattle.std.specs.Prelude.{length, take}
use Rattle.fm_name.specs.declared.events.EventName.{EventName}
use Rattle.fm_topo.specs.Topology.{Topology}
use Rattle.ev_tree.specs.declared.tree.Declared.{Declared}
use Rattle.ev_check.specs.CheckedFile.{CheckedFile}
use Rattle.ev_check.specs.declared.checked.DeclKind.{DeclKind}
use Rattle.ev_check.specs.declared.checked.DeclKind.TheVariants as kinds
use Rattle.ev_check.specs.declared.checked.EventSpec.{EventSpec}
use Rattle.ev_check.specs.declared.checked.SerdSpec.{SerdSpec}
use Rattle.ev_graph.specs.Lawful.{is_before_node, is_before_engine}
use Rattle.ev_incidence.specs.Sets.{ascends_by}
use Rattle.ev_graph.specs.declared.nodes.Node.{Node}
use Rattle.ev_graph.specs.declared.nodes.NodeKind.{NodeKind}
use Rattle.ev_graph.specs.declared.nodes.NodeKind.TheVariants as nodes
use Rattle.ev_graph.specs.declared.nodes.EngineSpec.{EngineSpec}
use Rattle.ev_events.specs.Placed.{IsDeclaredAt, IsAmongNames}

abbrev pub node_name : Node → EventName
node_name node = node.name

abbrev pub engine_name : EngineSpec → EventName
engine_name engine = engine.name

-- the number among engines of the one that is declared by e, at a path
pub record IsEngineAt (specs : List SerdSpec) (engines : List EventName) (e : ℕ) (path : List ℕ)
    (number : ℕ) : Type 0 where
  pub spec : SerdSpec
  pub declared : slice_get specs e ≡ Some spec
  pub stands : slice_get engines number ≡ Some (record { class = spec.engine.class; path = path })

-- the kind of a node: that of the declared event, an upset with its engine at the same path
abbrev pub IsKindAt : List SerdSpec → List EventName → List ℕ → DeclKind → NodeKind → Type 0
IsKindAt specs engines path (kinds.Fault fit retire) (nodes.Fault rate gone) =
    (rate ≡ fit) × (gone ≡ retire)
IsKindAt specs engines path (kinds.Defect fit retire) (nodes.Defect rate gone) =
    (rate ≡ fit) × (gone ≡ retire)
IsKindAt specs engines path (kinds.Upset None) (nodes.Upset None) = Unit {0}
IsKindAt specs engines path (kinds.Upset (Some e)) (nodes.Upset (Some number)) =
    IsEngineAt specs engines e path number
IsKindAt specs engines path kinds.Inner nodes.Inner = Unit {0}
IsKindAt specs engines path (kinds.Report within) (nodes.Report time) = time ≡ within
IsKindAt specs engines path _ _ = ⊥

-- the engine of an upset is at the path
abbrev pub HasEngine : List SerdSpec → List EventName → List ℕ → DeclKind → Type 0
HasEngine specs engines path (kinds.Upset (Some e)) =
    (spec : SerdSpec) × (slice_get specs e ≡ Some spec)
    × IsAmongNames engines (record { class = spec.engine.class; path = path })
HasEngine specs engines path _ = Unit {0}

-- a node is the event declared by a number, at a path with its names
pub record IsNodeAt (f : CheckedFile) (engines : List EventName) (number : ℕ) (node : Node) :
    Type 0 where
  pub spec : EventSpec
  pub declared : slice_get f.events number ≡ Some spec
  pub kind : IsKindAt f.engines engines node.name.path spec.kind node.kind

pub record IsNodeOf (f : CheckedFile) (topology : Topology) (engines : List EventName)
    (node : Node) : Type 0 where
  pub number : ℕ
  pub spec : EventSpec
  pub declared : slice_get f.events number ≡ Some spec
  pub at : IsDeclaredAt topology spec.event node.name
  pub kind : IsKindAt f.engines engines node.name.path spec.kind node.kind

-- an engine is the one declared by a number; its trip is the event at the same path
pub record IsEngineFor (f : CheckedFile) (names : List EventName) (number : ℕ)
    (engine : EngineSpec) : Type 0 where
  pub spec : SerdSpec
  pub declared : slice_get f.engines number ≡ Some spec
  pub n : engine.n ≡ spec.n
  pub t : engine.t ≡ spec.t
  pub event : EventSpec
  pub trips : slice_get f.events spec.trip ≡ Some event
  pub stands : slice_get names engine.trip
      ≡ Some (record { class = event.event.class; path = engine.name.path })

pub record IsEngineOf (f : CheckedFile) (topology : Topology) (names : List EventName)
    (engine : EngineSpec) : Type 0 where
  pub number : ℕ
  pub is : IsEngineFor f names number engine
  pub at : IsDeclaredAt topology is.spec.engine engine.name

-- all nodes and all engines, each once, in event order
pub record AreNodes (f : CheckedFile) (topology : Topology) (engines : List EngineSpec)
    (ns : List Node) : Type 0 where
  pub ascend : ascends_by is_before_node ns ≡ true
  pub each : (i : ℕ) (node : Node) → slice_get ns i ≡ Some node
      → IsNodeOf f topology (map engine_name engines) node
  pub all : (k : ℕ) (spec : EventSpec) (name : EventName) → slice_get f.events k ≡ Some spec
      → IsDeclaredAt topology spec.event name → IsAmongNames (map node_name ns) name

pub record AreEngines (f : CheckedFile) (topology : Topology) (ns : List Node)
    (engines : List EngineSpec) : Type 0 where
  pub ascend : ascends_by is_before_engine engines ≡ true
  pub each : (i : ℕ) (engine : EngineSpec) → slice_get engines i ≡ Some engine
      → IsEngineOf f topology (map node_name ns) engine
  pub all : (k : ℕ) (spec : SerdSpec) (name : EventName) → slice_get f.engines k ≡ Some spec
      → IsDeclaredAt topology spec.engine name → IsAmongNames (map engine_name engines) name

-- the engines of a file, in order: the place of one is its number
abbrev pub spec_engine : SerdSpec → Declared
spec_engine s = s.engine

abbrev pub file_engines : CheckedFile → List Declared
file_engines f = map spec_engine f.engines

-- what the node of a declared event at a path rests on: its engine is there
pub record NodeIsThere (f : CheckedFile) (engines : List EventName) (number : ℕ)
    (path : List ℕ) : Type 0 where
  pub spec : EventSpec
  pub declared : slice_get f.events number ≡ Some spec
  pub engine : HasEngine f.engines engines path spec.kind

-- what an engine rests on: its trip is there
pub record TripIsThere (f : CheckedFile) (names : List EventName) (trip : ℕ)
    (path : List ℕ) : Type 0 where
  pub event : EventSpec
  pub declared : slice_get f.events trip ≡ Some event
  pub there : IsAmongNames names (record { class = event.event.class; path = path })

pub record EngineIsThere (f : CheckedFile) (names : List EventName) (number : ℕ)
    (path : List ℕ) : Type 0 where
  pub spec : SerdSpec
  pub declared : slice_get f.engines number ≡ Some spec
  pub trip : TripIsThere f names spec.trip path

-- the number of a trip among names
pub record IsTripAt (f : CheckedFile) (names : List EventName) (trip : ℕ) (path : List ℕ)
    (at : ℕ) : Type 0 where
  pub event : EventSpec
  pub declared : slice_get f.events trip ≡ Some event
  pub stands : slice_get names at ≡ Some (record { class = event.event.class; path = path })

-- the same of each of some names, with their numbers
pub record AreNodesThere (f : CheckedFile) (engines names : List EventName)
    (numbers : List ℕ) : Type 0 where
  pub long : length numbers ≡ length names
  pub each : (i k : ℕ) (name : EventName) → slice_get names i ≡ Some name
      → slice_get numbers i ≡ Some k → NodeIsThere f engines k name.path

pub record AreEnginesThere (f : CheckedFile) (names engines : List EventName)
    (numbers : List ℕ) : Type 0 where
  pub long : length numbers ≡ length engines
  pub each : (i k : ℕ) (name : EventName) → slice_get engines i ≡ Some name
      → slice_get numbers i ≡ Some k → EngineIsThere f names k name.path

-- so many nodes, and so many engines, are those of the numbers
pub record AreNodesAt (f : CheckedFile) (engines names : List EventName) (numbers : List ℕ)
    (count : ℕ) (ns : List Node) : Type 0 where
  pub names_are : map node_name ns ≡ take count names
  pub each : (i k : ℕ) (node : Node) → slice_get ns i ≡ Some node
      → slice_get numbers i ≡ Some k → IsNodeAt f engines k node

pub record AreEnginesAt (f : CheckedFile) (names engines : List EventName) (numbers : List ℕ)
    (count : ℕ) (es : List EngineSpec) : Type 0 where
  pub names_are : map engine_name es ≡ take count engines
  pub each : (i k : ℕ) (engine : EngineSpec) → slice_get es i ≡ Some engine
      → slice_get numbers i ≡ Some k → IsEngineFor f names k engine

-- all nodes, at most 65,536, and all engines, fewer than 2 ^ 32
pub record ArePlacedEvents (f : CheckedFile) (topology : Topology) (ns : List Node)
    (engines : List EngineSpec) : Type 0 where
  pub nodes_are : AreNodes f topology engines ns
  pub engines_are : AreEngines f topology ns engines
  pub few_nodes : length ns ≤ 65536
  pub few_engines : length engines < 2 ^ 32
