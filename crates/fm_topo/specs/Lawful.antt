-- What a topology is.
use Rattle.std.specs.Prelude.{◌≡◌, ℕ, Bool, false, ◌&&◌, ◌≤◌, ◌^◌, nat_lt, List, length, IsTrue}
use Rattle.std.specs.List.{list_all, AllByRecursion}
use Rattle.std.specs.List.Sorted.{IsStrictlySortedBy}
use Rattle.std.specs.Map.{keys_of}
use Rattle.std.specs.Ordering.{nat_cmp}
use Rattle.std.specs.Cmp.Lexicographic.{slice_cmp}
use Rattle.fm_name.specs.Path.{is_path, is_name}
use Rattle.fm_name.specs.Order.{path_cmp}
use Rattle.fm_topo.specs.Property.{Properties, is_text_byte}
use Rattle.fm_topo.specs.Topology.{Topology, topology_of}
use Rattle.fm_topo.specs.Fault.{lacks_parent, IsFaultless}
use Rattle.fm_topo.specs.Printed.{place_line, topology_text}
use Rattle.fm_topo.specs.declared.values.TopoValue.{TopoValue}
use Rattle.fm_topo.specs.declared.values.TopoValue.TheVariants.{Number, Text}

-- a value: a number below 2 ^ 64, or a text of bytes that may stand between quotes
abbrev pub is_value : TopoValue → Bool
is_value (Number n) = nat_lt n (2 ^ 64)
is_value (Text text) = list_all is_text_byte text

-- a name and a value
abbrev pub is_pair : List ℕ × TopoValue → Bool
is_pair p = is_name p.0 && is_value p.1

-- a path with its properties, which ascend by their names; the line of them has at most 4,096 bytes
pub record IsPlace (place : List ℕ × Properties) : Type 0 where
  pub path : IsTrue (is_path place.0)
  pub pairs : IsTrue (list_all is_pair place.1)
  pub names : IsStrictlySortedBy (slice_cmp nat_cmp) (keys_of place.1)
  pub size : length (place_line place) ≤ 4096

-- Places that ascend by their paths and hold the parent of each path of depth above 1. They are at
-- most 65,536, and the text of them has at most 16,777,216 bytes.
pub record IsTopology (topology : Topology) : Type 0 where
  pub places : AllByRecursion IsPlace topology
  pub order : IsStrictlySortedBy path_cmp (keys_of topology)
  pub parents : AllByRecursion (λ place. lacks_parent topology place.0 ≡ false) topology
  pub count : length topology ≤ 65536
  pub size : length (topology_text topology) ≤ 16777216

-- a text without a fault that means the topology
abbrev pub ReadsAs : List ℕ → Topology → Type 0
ReadsAs text topology = IsFaultless text × (topology_of text ≡ topology)
