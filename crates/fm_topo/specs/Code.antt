-- A code of paths whose order is path order.
use Rattle.std.specs.Prelude.{ℕ, List, [], ◌∷◌, ◌++◌}
use Rattle.fm_name.specs.Path.{PathPart, parts_of}

-- the code of parts: for each the bytes of its name, a zero, which no name has, and its instance
abbrev pub parts_code : List PathPart → List ℕ
parts_code [] = []
parts_code (p ∷ ps) = p.name ++ (0 ∷ p.instance ∷ parts_code ps)

-- the code of a path
unfoldable pub path_code : List ℕ → List ℕ
path_code path = parts_code (parts_of path)
