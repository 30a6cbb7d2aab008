-- Which moments the options keep, and what stays of a text behind which lines are written.
use Rattle.std.specs.Prelude.{◌≡◌, ℕ, Bool, true, ◌&&◌, nat_le, List, ◌++◌, Option, Some, None}

-- a moment is not before the one asked for
abbrev pub is_from_moment : Option ℕ → ℕ → Bool
is_from_moment None moment = true
is_from_moment (Some from) moment = nat_le from moment

-- a moment is not after the one asked for
abbrev pub is_not_after : Option ℕ → ℕ → Bool
is_not_after None moment = true
is_not_after (Some to) moment = nat_le moment to

-- a moment lies between those asked for, both included
abbrev pub is_between : Option ℕ → Option ℕ → ℕ → Bool
is_between from to moment = is_from_moment from moment && is_not_after to moment

-- one text begins with another
abbrev pub IsTextFront : List ℕ → List ℕ → Type 0
IsTextFront old new = (more : List ℕ) × (new ≡ old ++ more)
