-- The fault of a line that has a path and properties.
use Rattle.std.proofs.Common.{◌≡◌, ℕ, List, length, Option, IsTrue, nat_lt, ap, sym, ◌∙◌}
use Rattle.std.specs.List.{list_all}
use Rattle.fm_name.specs.Path.{is_path}
use Rattle.fm_topo.specs.Fault.{set_fault, entry_fault}
use Rattle.fm_topo.specs.Property.{Properties, is_property, properties_of}
use Rattle.fm_topo.specs.Topology.{Topology}
use Rattle.fm_topo.specs.declared.faults.TopoKind.{TopoKind}
use Rattle.fm_topo.proofs.Twins.{twins_counted}

-- it is that of the path among those of earlier lines, where a name stands twice if the map has
-- fewer than there are words
pub set_stops : (found : Topology) (path key : List ℕ) (words : List (List ℕ)) (map : Properties)
    (count : ℕ) (fault : Option TopoKind)
    → IsTrue (is_path path) → IsTrue (list_all is_property words) → key ≡ path
    → map ≡ properties_of words → count ≡ length words
    → fault ≡ set_fault found key (nat_lt (length map) count) → entry_fault found path words ≡ fault
unfolding entry_fault
set_stops found path key words map count fault p q same_key same_map same_count e =
    rw (p, q) (sym (e ∙ rw (same_key, same_map, same_count)
    (ap (set_fault found path) (twins_counted words))))
