-- What a topology text means.
use Rattle.std.specs.Prelude.{ℕ, Bool, List, [], Option, fold, is_some, if◌then◌else◌}
use Rattle.std.specs.BTreeMap.{insert_entry, is_at}
use Rattle.std.specs.Map.{lookup}
use Rattle.fm_name.specs.Order.{path_cmp}
use Rattle.fm_topo.specs.Line.{topology_lines, content_of, is_skipped, path_of, words_of}
use Rattle.fm_topo.specs.Property.{Properties, properties_of}

-- a topology: a set of paths, and for each its properties, as the list of these pairs in path order
abbrev pub Topology : Type 0
Topology = List (List ℕ × Properties)

-- the properties of a path, where it is there
abbrev pub properties_at : Topology → List ℕ → Option Properties
properties_at found path = lookup (is_at (path_cmp path)) found

-- whether a path is there
abbrev pub has_path : Topology → List ℕ → Bool
has_path found path = is_some (properties_at found path)

-- a topology with what one more line says
unfoldable pub with_line : Topology → List ℕ → Topology
with_line found line =
    if is_skipped (content_of line) then found
    else insert_entry path_cmp found (path_of (content_of line))
    (properties_of (words_of (content_of line)))

-- the topology that lines mean
unfoldable pub lines_topology : List (List ℕ) → Topology
lines_topology lines = fold with_line [] lines

-- the topology that a text means
abbrev pub topology_of : List ℕ → Topology
topology_of text = lines_topology (topology_lines text)
