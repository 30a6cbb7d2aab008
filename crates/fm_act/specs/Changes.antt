-- What becomes of the paths that an actuator holds at calls with several paths.
use Rattle.std.specs.Prelude.{◌⊎◌, ◌↔◌, ℕ, List, Option, None, Some, Contains}

-- the paths are held now, and besides them what was held
abbrev pub AddsPaths : List (List ℕ) → Option (List (List ℕ)) → Option (List (List ℕ)) → Type 0
AddsPaths paths None new = Unit {0}
AddsPaths paths (Some xs) None = ⊥
AddsPaths paths (Some xs) (Some ys) = (other : List ℕ) → Contains ys other
    ↔ (Contains paths other ⊎ Contains xs other)

-- none of the paths is held now, and all else that was held is
abbrev pub TakesPaths : List (List ℕ) → Option (List (List ℕ)) → Option (List (List ℕ)) → Type 0
TakesPaths paths None new = Unit {0}
TakesPaths paths (Some xs) None = ⊥
TakesPaths paths (Some xs) (Some ys) = (other : List ℕ) → Contains ys other
    ↔ ((Contains paths other → ⊥) × Contains xs other)
