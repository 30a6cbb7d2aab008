-- The bytes that spell what a rule file comes to.
use Rattle.std.specs.Prelude.{◌≡◌, ℕ, ◌<◌, ◌≤◌, ◌^◌, Bool, true, false, List, [], ◌∷◌, ◌++◌, All}
use Rattle.std.specs.Prelude.{IsTrue, Option, Some, None, length, take, codes, if◌then◌else◌}
use Rattle.fm_bytes.specs.Numbers.{u32_bytes, u64_bytes, counted_bytes}
use Rattle.fm_name.specs.Category.{category_of}
use Rattle.fm_name.specs.declared.classes.Category.{Category}
use Rattle.fm_name.specs.declared.classes.Category.TheVariants.{Ereport, Error}
use Rattle.fm_name.specs.declared.classes.Category.TheVariants.{Fault as FaultClass}
use Rattle.fm_name.specs.declared.classes.Category.TheVariants.{Defect as DefectClass}
use Rattle.fm_name.specs.declared.classes.Category.TheVariants.{Upset as UpsetClass}
use Rattle.fm_entry.specs.Words.{IsEvent}
use Rattle.fm_entry.specs.WordBytes.{event_bytes}
use Rattle.ev_graph.specs.Lawful.{IsGraph}
use Rattle.ev_graph.specs.declared.nodes.Node.{Node}
use Rattle.ev_graph.specs.declared.nodes.NodeKind.{NodeKind}
use Rattle.ev_graph.specs.declared.nodes.NodeKind.TheVariants.{Fault, Defect, Upset, Inner, Report}
use Rattle.ev_graph.specs.declared.nodes.EngineSpec.{EngineSpec}
use Rattle.ev_graph.specs.declared.instances.Instance.{Instance}
use Rattle.ev_file.specs.declared.made.Made.{Made}

-- the category is that of the events of the kind
abbrev pub is_category_for : NodeKind → Option Category → Bool
is_category_for (Fault fit retire) (Some FaultClass) = true
is_category_for (Defect fit retire) (Some DefectClass) = true
is_category_for (Upset engine) (Some UpsetClass) = true
is_category_for Inner (Some Error) = true
is_category_for (Report within) (Some Ereport) = true
is_category_for _ _ = false

abbrev pub has_category : Node → Bool
has_category node = is_category_for node.kind (category_of node.name.class)

-- the FIT of a root has four bytes
abbrev pub FitsKind : NodeKind → Type 0
FitsKind (Fault fit retire) = fit < 2 ^ 32
FitsKind (Defect fit retire) = fit < 2 ^ 32
FitsKind _ = Unit {0}

-- a node whose category fits its kind
pub record IsFileNode (node : Node) : Type 0 where
  pub event : IsEvent node.name
  pub category : IsTrue (has_category node)
  pub fits : FitsKind node.kind

-- a graph with a spelling, and a number of skipped candidates
pub record IsSpelledFile (made : Made) : Type 0 where
  pub graph : IsGraph made.graph
  pub nodes_are : All IsFileNode made.graph.nodes
  pub engines_are : All (λ engine. IsEvent engine.name) made.graph.engines
  pub few_engines : length made.graph.engines < 2 ^ 32
  pub skipped_fits : made.skipped < 2 ^ 64

-- the number of a kind
abbrev pub kind_code : NodeKind → ℕ
kind_code (Fault fit retire) = 1
kind_code (Defect fit retire) = 2
kind_code (Upset engine) = 3
kind_code Inner = 4
kind_code (Report within) = 5

-- the number of an engine, or one that none has
abbrev pub engine_code : Option ℕ → ℕ
engine_code None = 4294967295
engine_code (Some engine) = engine

abbrev pub flag_bytes : Bool → List ℕ
flag_bytes b = (if b then 1 else 0) ∷ []

-- the fields of a kind
abbrev pub kind_bytes : NodeKind → List ℕ
kind_bytes (Fault fit retire) = u32_bytes fit ++ flag_bytes retire
kind_bytes (Defect fit retire) = u32_bytes fit ++ flag_bytes retire
kind_bytes (Upset engine) = u32_bytes (engine_code engine)
kind_bytes Inner = []
kind_bytes (Report within) = u64_bytes within

-- a node: the number of its kind, its class and path, and the fields of the kind
abbrev pub node_bytes : Node → List ℕ
node_bytes node = kind_code node.kind ∷ [] ++ (event_bytes node.name ++ kind_bytes node.kind)

-- an engine: its class and path, N, T and the node of its trip
abbrev pub engine_bytes : EngineSpec → List ℕ
engine_bytes engine =
    event_bytes engine.name
    ++ (u32_bytes engine.n ++ (u64_bytes engine.t ++ u32_bytes engine.trip))

-- an instance: N, K, the causes and the effects
abbrev pub instance_bytes : Instance → List ℕ
instance_bytes i =
    u32_bytes i.n
    ++ (u32_bytes i.k
    ++ (counted_bytes 4 u32_bytes i.causes ++ counted_bytes 4 u32_bytes i.effects))

-- what stands behind the first eight bytes
abbrev pub body_bytes : Made → List ℕ
body_bytes made =
    counted_bytes 4 node_bytes made.graph.nodes
    ++ (counted_bytes 4 engine_bytes made.graph.engines
    ++ (counted_bytes 4 instance_bytes made.graph.instances ++ u64_bytes made.skipped))

-- a compiled file: its eight first bytes, the nodes, the engines, the instances, and how many
-- candidates were skipped
abbrev pub file_bytes : Made → List ℕ
file_bytes made = codes "FMAESC01" ++ body_bytes made

-- the first so many bytes are its spelling
pub record IsFileFront (made : Made) (size : ℕ) (bytes : List ℕ) : Type 0 where
  pub inside : size ≤ length bytes
  pub spelled : take size bytes ≡ file_bytes made
