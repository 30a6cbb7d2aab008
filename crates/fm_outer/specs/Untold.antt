-- A disk that tells nothing has no image.
use Rattle.std.specs.Prelude.{◌≡◌, List, ℕ, None, Some}

pub none_not_some : (c : List ℕ) → None ≡ Some c → ⊥
none_not_some c is = cc is
