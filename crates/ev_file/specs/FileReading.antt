-- What the front of some bytes reads as: the parts of a compiled file.
use Rattle.std.specs.Prelude.{ℕ, ◌==◌, Bool, List, Option, Some, None}
use Rattle.std.specs.Prelude.{if◌then◌else◌}
use Rattle.fm_bytes.specs.Reading.{Read, made, number_from, flag_from, both_from, where_from}
use Rattle.fm_bytes.specs.Reading.{counted_from}
use Rattle.fm_entry.specs.WordReading.{then_from, event_from}
use Rattle.ev_graph.specs.Lawful.{IsGraph}
use Rattle.ev_graph.specs.declared.nodes.Node.{Node}
use Rattle.ev_graph.specs.declared.nodes.NodeKind.{NodeKind}
use Rattle.ev_graph.specs.declared.nodes.NodeKind.TheVariants.{Fault, Defect, Upset, Inner, Report}
use Rattle.ev_graph.specs.declared.nodes.EngineSpec.{EngineSpec}
use Rattle.ev_graph.specs.declared.instances.Instance.{Instance}
use Rattle.ev_file.specs.Files.{has_category}
use Rattle.ev_file.specs.declared.made.Made.{Made}

-- the engine of a number, or none
abbrev pub engine_numbered : ℕ → Option ℕ
engine_numbered n = if n == 4294967295 then None else Some n

-- the fields of a root
unfoldable pub root_from : List ℕ → Read (ℕ × Bool)
root_from bytes = both_from (number_from 4) flag_from bytes

-- the kind of a number, with its fields
unfoldable pub kind_from : ℕ → List ℕ → Read NodeKind
kind_from code bytes =
    if code == 1 then made (λ f. Fault f.0 f.1) (root_from bytes)
    else (if code == 2 then made (λ f. Defect f.0 f.1) (root_from bytes)
    else (if code == 3 then made (λ n. Upset (engine_numbered n)) (number_from 4 bytes)
    else (if code == 4 then Some (Inner, bytes)
    else (if code == 5 then made Report (number_from 8 bytes)
    else None))))

-- an event of some category
unfoldable pub any_node_from : List ℕ → Read Node
any_node_from bytes =
    made (λ f. record { name = f.1.0; kind = f.1.1 })
    (then_from (number_from 1) (λ code. both_from event_from (kind_from code)) bytes)

-- a node whose category fits its kind
unfoldable pub node_from : List ℕ → Read Node
node_from bytes = where_from has_category any_node_from bytes

-- an engine
unfoldable pub engine_from : List ℕ → Read EngineSpec
engine_from bytes =
    made (λ f. record { name = f.0; n = f.1.0; t = f.1.1.0; trip = f.1.1.1 })
    (both_from event_from (both_from (number_from 4) (both_from (number_from 8) (number_from 4)))
    bytes)

-- an instance
unfoldable pub instance_from : List ℕ → Read Instance
instance_from bytes =
    made (λ f. record { causes = f.1.1.0; effects = f.1.1.1; n = f.0; k = f.1.0 })
    (both_from (number_from 4)
    (both_from (number_from 4)
    (both_from (counted_from 4 (number_from 4)) (counted_from 4 (number_from 4)))) bytes)

-- the eight first bytes, as one number
unfoldable pub magic_from : List ℕ → Read ℕ
magic_from bytes = where_from (λ n. n == 5065776921867137073) (number_from 8) bytes

-- the parts of a compiled file, be they a graph or not
unfoldable pub body_from : List ℕ → Read Made
body_from bytes =
    made (λ f. record {
      graph = record { nodes = f.0; engines = f.1.0; instances = f.1.1.0 };
      skipped = f.1.1.1;
    })
    (both_from (counted_from 4 node_from)
    (both_from (counted_from 4 engine_from)
    (both_from (counted_from 4 instance_from) (number_from 8))) bytes)

-- the same behind the eight first bytes
unfoldable pub file_from : List ℕ → Read Made
file_from bytes = made (λ f. f.1) (both_from magic_from body_from bytes)

-- nothing was read, or parts that are no graph
abbrev pub IsNoFile : Read Made → Type 0
IsNoFile None = Unit {0}
IsNoFile (Some t) = IsGraph t.0.graph → ⊥
