-- The faults of topology texts.
use Rattle.std.specs.Prelude.{◌≡◌, ℕ, Bool, not, ◌&&◌, ◌||◌, ◌+◌, ◌<◌, nat_lt, nat_le, List, []}
use Rattle.std.specs.Prelude.{◌∷◌, length, map, take, slice_get, unwrap_or, Option, Some, None}
use Rattle.std.specs.Prelude.{if◌then◌else◌}
use Rattle.std.specs.List.{list_all, list_any}
use Rattle.std.specs.Prelude.{◌==◌}
use Rattle.fm_name.specs.Path.{is_path, parts_of}
use Rattle.fm_topo.specs.Line.{topology_lines, content_of, line_end, is_clean_byte, is_skipped}
use Rattle.fm_topo.specs.Line.{path_of, words_of}
use Rattle.fm_topo.specs.Property.{is_property, property_name, has_twin}
use Rattle.fm_topo.specs.Topology.{Topology, has_path, lines_topology}
use Rattle.fm_topo.specs.declared.faults.TopoKind.{TopoKind}
use Rattle.fm_topo.specs.declared.faults.TopoKind.TheVariants.{Path, Property, Twice, Parent}
use Rattle.fm_topo.specs.declared.faults.TopoKind.TheVariants.{Length, Count, Bytes}
use Rattle.fm_topo.specs.declared.faults.TopoFault.{TopoFault}
use Rattle.fm_topo.specs.declared.faults.TopoFault.TheVariants.{At, NoMemory}

-- the path above a path: what stands before its last slash
abbrev pub parent_of : List ℕ → List ℕ
parent_of [] = []
parent_of (b ∷ bytes) = if list_any (λ x. x == 47) bytes then b ∷ parent_of bytes else []

-- whether the path wants a parent that is not there
abbrev pub lacks_parent : Topology → List ℕ → Bool
lacks_parent found path =
    nat_lt 1 (length (parts_of path)) && not
    (is_path (parent_of path) && has_path found (parent_of path))

-- the fault of a line whose path and properties are well formed: `twin` says whether a name stands
-- twice among its properties, and `found` is the topology of the earlier lines
unfoldable pub set_fault : Topology → List ℕ → Bool → Option TopoKind
set_fault found path twin =
    if (has_path found path || twin) then Some Twice else
    if lacks_parent found path then Some Parent else
    if nat_le 65536 (length found) then Some Count else None

-- the first fault of a line that is not skipped
unfoldable pub entry_fault : Topology → List ℕ → List (List ℕ) → Option TopoKind
entry_fault found path words =
    if not (is_path path) then Some Path else
    if not (list_all is_property words) then Some Property else
    set_fault found path (has_twin (map property_name words))

-- the first fault of a line, with which so many bytes of the text end
unfoldable pub line_fault : Topology → ℕ → List ℕ → Option TopoKind
line_fault found last line =
    if not (list_all is_clean_byte (content_of line)) then Some Bytes else
    if (nat_lt 4096 (length line) || nat_lt 16777216 last) then Some Length else
    if is_skipped (content_of line) then None else
    entry_fault found (path_of (content_of line)) (words_of (content_of line))

-- the first fault of the line of a number, counted from 0: it looks at the earlier lines alone
unfoldable pub fault_at : List ℕ → ℕ → Option TopoKind
fault_at text number =
    line_fault (lines_topology (take number (topology_lines text))) (line_end text number)
    (unwrap_or (slice_get (topology_lines text) number) [])

-- no line before that of the number has a fault
abbrev pub IsCleanBefore : List ℕ → ℕ → Type 0
IsCleanBefore text number = (k : ℕ) → k < number → fault_at text k ≡ None

-- a text has no fault
abbrev pub IsFaultless : List ℕ → Type 0
IsFaultless text = IsCleanBefore text (length (topology_lines text))

-- the answer is the first fault of the text; lines count from 1
abbrev pub IsFirstFault : List ℕ → TopoFault → Type 0
IsFirstFault text (At line kind) = (k : ℕ) × (line ≡ k + 1) × (k < length (topology_lines text))
    × (fault_at text k ≡ Some kind) × IsCleanBefore text k
IsFirstFault text NoMemory = Unit {0}
