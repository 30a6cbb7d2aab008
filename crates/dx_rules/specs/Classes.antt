-- The classes that reports of a graph have.
use Rattle.std.specs.Prelude.{ℕ, Bool, List, bytes_eq}
use Rattle.std.specs.List.{list_any}

-- the class is one of these
abbrev pub is_class_among : List (List ℕ) → List ℕ → Bool
is_class_among classes class = list_any (bytes_eq class) classes
