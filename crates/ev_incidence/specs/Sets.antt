-- Sets of nodes. A set is a test of numbers, and lists and marks are sets.
use Rattle.std.specs.Prelude.{◌≡◌, ◌==◌, ◌&&◌, ℕ, Bool, true, false, nat_lt, List, [], ◌∷◌}
use Rattle.std.specs.Prelude.{slice_index_or, count_by}
use Rattle.std.specs.List.{list_any}

abbrev pub NodeSet : Type 0
NodeSet = ℕ → Bool

-- the members of a list
abbrev pub is_member : List ℕ → NodeSet
is_member xs e = list_any (λ x. x == e) xs

-- the numbers that are marked; none past the end
abbrev pub has_mark : List Bool → NodeSet
has_mark marks e = slice_index_or marks e false

abbrev pub IsSubset : NodeSet → NodeSet → Type 0
IsSubset X Y = (e : ℕ) → X e ≡ true → Y e ≡ true

-- how often v stands in xs
abbrev pub occurs : ℕ → List ℕ → ℕ
occurs v xs = count_by (λ x. x == v) xs

-- each item is before the next
abbrev pub starts_above : {X : Type 0} → (X → X → Bool) → X → List X → Bool
starts_above before x [] = true
starts_above before x (y ∷ ys) = before x y

abbrev pub ascends_by : {X : Type 0} → (X → X → Bool) → List X → Bool
ascends_by before [] = true
ascends_by before (x ∷ xs) = starts_above before x xs && ascends_by before xs

abbrev pub ascends : List ℕ → Bool
ascends xs = ascends_by nat_lt xs
