-- Searches: over the numbers below one, and over all sets of them.
use Rattle.std.specs.Prelude.{◌≡◌, ◌==◌, ◌&&◌, ◌||◌, ◌++◌, ◌∷◌, [], ◌<◌, ℕ, zero, suc, Bool, true}
use Rattle.std.specs.Prelude.{false, List}
use Rattle.ev_incidence.specs.Sets.{NodeSet}

-- some number below n passes the test; each does
unfoldable pub some_below : ℕ → (ℕ → Bool) → Bool
some_below zero test = false
some_below (suc n) test = some_below n test || test n

unfoldable pub every_below : ℕ → (ℕ → Bool) → Bool
every_below zero test = true
every_below (suc n) test = every_below n test && test n

-- the numbers below n, ascending
unfoldable pub numbers_below : ℕ → List ℕ
numbers_below zero = []
numbers_below (suc n) = numbers_below n ++ n ∷ []

-- a set with no member, and one with a member more
abbrev pub empty_set : NodeSet
empty_set e = false

abbrev pub with_member : ℕ → NodeSet → NodeSet
with_member n X e = X e || e == n

-- some set of numbers below n passes the test
unfoldable pub some_set : ℕ → (NodeSet → Bool) → Bool
some_set zero test = test empty_set
some_set (suc n) test = some_set n test || some_set n (λ X. test (with_member n X))

-- each member is below n
abbrev pub IsSetBelow : ℕ → NodeSet → Type 0
IsSetBelow n X = (e : ℕ) → X e ≡ true → e < n
