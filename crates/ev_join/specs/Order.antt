-- The order of lists of numbers: that of their first difference, and a list before those that are
-- longer and begin with it.
use Rattle.std.specs.Prelude.{◌≡◌, ℕ, ◌<◌, ◌⊎◌, ⊤, Bool, true, false, ◌==◌, ◌&&◌, ◌||◌}
use Rattle.std.specs.Prelude.{nat_lt, List, [], ◌∷◌, Option, None, slice_get, if◌then◌else◌}
use Rattle.ev_join.specs.declared.rows.Placed.{Placed}
use Rattle.ev_join.specs.declared.rows.Placed.TheVariants as placeds

-- a list is another, or stands behind it
abbrev pub IsNotBefore : List ℕ → List ℕ → Type 0
IsNotBefore c [] = ⊤
IsNotBefore [] (y ∷ ys) = ⊥
IsNotBefore (x ∷ xs) (y ∷ ys) = (y < x) ⊎ ((x ≡ y) × IsNotBefore xs ys)

-- the same as a test
abbrev pub is_not_before : List ℕ → List ℕ → Bool
is_not_before c [] = true
is_not_before [] (y ∷ ys) = false
is_not_before (x ∷ xs) (y ∷ ys) = nat_lt y x || (x == y && is_not_before xs ys)

-- where a list stands to another: before it, past it, or it begins with it and so many follow
pub data Placing : Type 0 where
  Before : Placing
  Past : Placing
  Begins : List ℕ → Placing

abbrev pub placing : List ℕ → List ℕ → Placing
placing xs [] = Begins xs
placing [] (y ∷ ys) = Before
placing (x ∷ xs) (y ∷ ys) =
    if nat_lt y x then Past else (if nat_lt x y then Before else placing xs ys)

-- whether a list that is placed so is no longer before when a last number is added
abbrev pub is_placed_from : Placing → List ℕ → Bool
is_placed_from Before last = false
is_placed_from Past last = true
is_placed_from (Begins rest) last = is_not_before rest last

-- the number behind a beginning, where a list begins so and goes on
abbrev pub number_behind : Placing → Option ℕ
number_behind (Begins rest) = slice_get rest 0
number_behind _ = None

-- whether a list begins with another
abbrev pub is_begun : Placing → Bool
is_begun (Begins rest) = true
is_begun _ = false

-- the placing that the code answers
abbrev pub view_placing : Placed → Placing
view_placing placeds.Before = Before
view_placing placeds.Past = Past
view_placing (placeds.Begins rest) = Begins rest.now

-- each number is below 2 ^ 32
abbrev pub AreSmall : List ℕ → Type 0
AreSmall [] = ⊤
AreSmall (x ∷ xs) = (x < 4294967296) × AreSmall xs
