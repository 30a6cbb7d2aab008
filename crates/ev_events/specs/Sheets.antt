-- The tables of patterns.
use Rattle.std.specs.Prelude.{◌≡◌, ◌&&◌, ⊤, ℕ, List, [], ◌∷◌, Option, Some, None, length}
use Rattle.std.specs.Prelude.{slice_get, ◌==◌, if◌then◌else◌}
use Rattle.std.specs.List.{count_by}
use Rattle.std.specs.Map.{keys_of}
use Rattle.fm_name.specs.Path.{instances_of}
use Rattle.fm_topo.specs.Topology.{Topology}
use Rattle.ev_tree.specs.Pattern.{Pattern}
use Rattle.ev_tree.specs.declared.tree.Part.{Part}
use Rattle.ev_join.specs.Tables.{TableValue, rows_at}
use Rattle.ev_join.specs.declared.table.Row.{Row}
use Rattle.ev_events.specs.Fits.{fitting, has_names}
use Rattle.ev_events.specs.Slots.{keep_all, values_at}
use Rattle.ev_events.specs.declared.slots.Slot.{Slot}
use Rattle.ev_events.specs.declared.slots.Column.{Column}

-- the row of a path with a number: where it has the names of the parts and agrees with itself, its
-- instances at the columns
abbrev pub row_of : List Slot → List Column → List Part → ℕ → List ℕ → Option Row
row_of slots columns parts at path =
    if has_names parts path && keep_all slots (instances_of path)
    then Some (record { values = values_at columns (instances_of path); path = at })
    else None

abbrev pub row_if : List Slot → List Column → List Part → ℕ → Option (List ℕ) → Option Row
row_if slots columns parts at None = None
row_if slots columns parts at (Some path) = row_of slots columns parts at path

-- that of the path with a number in a topology
abbrev pub path_row : Topology → List Slot → List Column → List Part → ℕ → Option Row
path_row topology slots columns parts at =
    row_if slots columns parts at (slice_get (keys_of topology) at)

-- a table whose rows at each binding are those of the paths that fit parts under it: as many, and
-- each number as often
pub record IsTableOf (topology : Topology) (vs : List (List ℕ)) (parts : List Part)
    (t : TableValue) : Type 0 where
  pub count : (b : List ℕ) → length b ≡ length vs
      → length (rows_at t b) ≡ length (fitting topology vs b parts)
  pub each : (b : List ℕ) (n : ℕ) → length b ≡ length vs
      → count_by (λ r. r.path == n) (rows_at t b)
      ≡ count_by (λ m. m == n) (fitting topology vs b parts)

-- a table of each pattern
abbrev pub AreTablesOf : Topology → List (List ℕ) → List Pattern → List TableValue → Type 0
AreTablesOf topology vs [] [] = ⊤
AreTablesOf topology vs (q ∷ qs) (t ∷ ts) =
    IsTableOf topology vs q.parts t × AreTablesOf topology vs qs ts
AreTablesOf topology vs _ _ = ⊥
