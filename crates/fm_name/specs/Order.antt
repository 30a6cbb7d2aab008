-- The orders of paths and of events.
use Rattle.std.specs.Prelude.{ℕ, Bool, true, false, ◌&&◌, ◌==◌, List, [], ◌∷◌}
use Rattle.std.specs.Str.{bytes_eq}
use Rattle.std.specs.declared.cmp.Ordering.{Ordering}
use Rattle.std.specs.Ordering.{nat_cmp, on, then_cmp}
use Rattle.std.specs.Cmp.Lexicographic.{slice_cmp}
use Rattle.fm_name.specs.Path.{PathPart, parts_of}

-- parts: by the bytes of the name, then by the value of the instance
unfoldable pub part_cmp : PathPart → PathPart → Ordering
part_cmp = then_cmp (on (λ p. p.name) (slice_cmp nat_cmp)) (on (λ p. p.instance) nat_cmp)

-- lists of parts: part by part, a prefix first
unfoldable pub parts_cmp : List PathPart → List PathPart → Ordering
parts_cmp = slice_cmp part_cmp

-- Paths: by their parts. Two texts with the same parts, which no two paths are, are told apart by
-- their bytes, so that this is a total order of all texts.
unfoldable pub path_cmp : List ℕ → List ℕ → Ordering
path_cmp = then_cmp (on parts_of parts_cmp) (slice_cmp nat_cmp)

-- opens the order of paths, for a proof that names this
unfoldable pub orders : Unit {0}
unfolding path_cmp parts_of
orders = tt

-- whether two parts have one name and one instance
abbrev pub part_eq : PathPart → PathPart → Bool
part_eq p q = bytes_eq p.name q.name && (p.instance == q.instance)

-- whether a list of parts begins with another
abbrev pub begins_with_parts : List PathPart → List PathPart → Bool
begins_with_parts ps [] = true
begins_with_parts [] (q ∷ qs) = false
begins_with_parts (p ∷ ps) (q ∷ qs) = part_eq p q && begins_with_parts ps qs

-- Whether a path is under another: its parts begin with those of the other. Each path is under
-- itself.
unfoldable pub is_under : List ℕ → List ℕ → Bool
is_under path above = begins_with_parts (parts_of path) (parts_of above)
