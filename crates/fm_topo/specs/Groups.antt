-- Paths grouped by their names.
use Rattle.std.specs.Prelude.{ℕ, suc, List, [], ◌∷◌, bytes_eq, if◌then◌else◌, unwrap_or, map, codes}
use Rattle.std.specs.Prelude.{◌≡◌}
use Rattle.std.specs.List.{join_by}
use Rattle.fm_name.specs.Path.{names_of}
use Rattle.fm_topo.specs.Topology.{Topology}
use Rattle.std.specs.Ordering.{nat_cmp}
use Rattle.std.specs.Cmp.Lexicographic.{slice_cmp}
use Rattle.std.specs.BTreeMap.{is_at}
use Rattle.std.specs.Map.{lookup}

-- the places of a list at which a text stands, where the first of the list has a number
abbrev pub text_places : List ℕ → ℕ → List (List ℕ) → List ℕ
text_places text at [] = []
text_places text at (t ∷ ts) =
    if bytes_eq t text then at ∷ text_places text (suc at) ts else text_places text (suc at) ts

-- the numbers that groups keep for a text
abbrev pub numbers_at : List (List ℕ × List ℕ) → List ℕ → List ℕ
numbers_at groups text = unwrap_or (lookup (is_at (slice_cmp nat_cmp text)) groups) []

-- the names of a path, joined by slashes
unfoldable pub names_text : List ℕ → List ℕ
names_text path = join_by (λ name. name) (codes "/") (names_of path)

-- the numbers of the paths of a topology whose names joined by slashes are the text, ascending
abbrev pub group_of : List ℕ → Topology → List ℕ
group_of text topology = text_places text 0 (map (λ place. names_text place.0) topology)

-- for each text the numbers of the paths with these names are kept
abbrev pub IsGrouped : Topology → List (List ℕ × List ℕ) → Type 0
IsGrouped topology groups = (text : List ℕ) → numbers_at groups text ≡ group_of text topology
