-- Arrows between numbered nodes, and ways along them. An arrow has a list of causes and a list of
-- effects: `causes` and `effects` are two lists of lists, and the arrow j has those at the place j.
use Rattle.std.specs.Prelude.{◌≡◌, ℕ, zero, suc, List}
use Rattle.ev_ways.specs.Lists.{IsIn, row}

-- x leads to y: some arrow has x as a cause and y as an effect
pub record Leads (causes effects : List (List ℕ)) (x y : ℕ) : Type 0 where
  pub arrow : ℕ
  pub cause : IsIn x (row causes arrow)
  pub effect : IsIn y (row effects arrow)

-- a way of n steps from x to y
abbrev pub Way : List (List ℕ) → List (List ℕ) → ℕ → ℕ → ℕ → Type 0
Way causes effects zero x y = x ≡ y
Way causes effects (suc n) x y = (z : ℕ) × Leads causes effects x z × Way causes effects n z y

-- x reaches y by one or more steps
abbrev pub Reaches : List (List ℕ) → List (List ℕ) → ℕ → ℕ → Type 0
Reaches causes effects x y = (n : ℕ) × Way causes effects (suc n) x y

-- a way of n steps to y from one of the starts
abbrev pub Comes : List (List ℕ) → List (List ℕ) → List ℕ → ℕ → ℕ → Type 0
Comes causes effects starts n y = (s : ℕ) × IsIn s starts × Way causes effects n s y
