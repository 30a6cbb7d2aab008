-- What is asked of a topology.
use Rattle.std.specs.Prelude.{ℕ, Bool, ◌&&◌, nat_lt, List, length, Option, option_and_then}
use Rattle.std.specs.Ordering.{nat_cmp}
use Rattle.std.specs.Cmp.Lexicographic.{slice_cmp}
use Rattle.std.specs.BTreeMap.{is_at}
use Rattle.std.specs.Map.{lookup}
use Rattle.fm_name.specs.Path.{parts_of}
use Rattle.fm_name.specs.Order.{is_under}
use Rattle.fm_topo.specs.Property.{Properties}
use Rattle.fm_topo.specs.Topology.{Topology, properties_at}
use Rattle.fm_topo.specs.declared.values.TopoValue.{TopoValue}

-- whether a path is under another and longer
abbrev pub lies_under : List ℕ → List ℕ → Bool
lies_under path above =
    is_under path above && nat_lt (length (parts_of above)) (length (parts_of path))

-- the value of a name among properties
abbrev pub property_value : Properties → List ℕ → Option TopoValue
property_value properties name = lookup (is_at (slice_cmp nat_cmp name)) properties

-- the value of a name at a path
unfoldable pub property_at : Topology → List ℕ → List ℕ → Option TopoValue
property_at topology path name =
    option_and_then (λ properties. property_value properties name) (properties_at topology path)
