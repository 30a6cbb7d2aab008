-- The resources that are wanted out of use: those of present suspects to be retired, in the rows of
-- cases that are solved and not yet repaired.
use Rattle.std.specs.Prelude.{ℕ, Bool, true, false, ◌&&◌, cond, List, [], map, flat_map, ◌↔◌}
use Rattle.std.specs.List.{filter, Contains}
use Rattle.std.specs.List.Sorted.{IsStrictlySortedBy}
use Rattle.fm_name.specs.Order.{path_cmp}
use Rattle.fm_entry.specs.declared.suspect.Suspect.{Suspect}
use Rattle.fm_entry.specs.declared.suspect.Mark.{Mark}
use Rattle.fm_entry.specs.declared.suspect.Mark.TheVariants.{Present}
use Rattle.fm_entry.specs.declared.list_event.ListEvent.{ListEvent}
use Rattle.fm_entry.specs.declared.list_event.ListKind.{ListKind}
use Rattle.fm_entry.specs.declared.list_event.ListKind.TheVariants.{Suspect as SuspectWord, Updated}

-- a case is solved, and a suspect of it may still be present
abbrev pub is_solved : ListKind → Bool
is_solved SuspectWord = true
is_solved Updated = true
is_solved _ = false

-- a suspect counts as faulty
abbrev pub is_present : Mark → Bool
is_present Present = true
is_present _ = false

-- a suspect's resource is to be out of use
abbrev pub is_out : Suspect → Bool
is_out suspect = is_present suspect.mark && suspect.retire

-- the paths of suspects whose resources are to be out of use
abbrev pub out_paths : List Suspect → List (List ℕ)
out_paths suspects = map (λ suspect. suspect.path) (filter is_out suspects)

-- those of one row, where its case is solved
abbrev pub row_paths : ListEvent → List (List ℕ)
row_paths row = cond (is_solved row.kind) (out_paths row.suspects) []

-- the wanted paths of rows, row by row
unfoldable pub wanted_paths : List ListEvent → List (List ℕ)
wanted_paths rows = flat_map row_paths rows

-- the paths that rows want out of use: in path order, each once, and none else
pub record IsWantedOf (rows : List ListEvent) (paths : List (List ℕ)) : Type 0 where
  pub ascend : IsStrictlySortedBy path_cmp paths
  pub same : (path : List ℕ) → Contains paths path ↔ Contains (wanted_paths rows) path
