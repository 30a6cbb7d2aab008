-- Cycles, and the one that is answered.
use Rattle.std.specs.Prelude.{◌≡◌, ℕ, suc, ◌+◌, ◌<◌, ◌≤◌, List, length, slice_index}
use Rattle.ev_ways.specs.Ways.{Leads, Way, Reaches}

-- the members, in order, lead each to the next and the last to the first
pub record IsRing (causes effects : List (List ℕ)) (members : List ℕ) : Type 0 where
  pub some : 0 < length members
  pub next : (k : ℕ) → k + 1 < length members
      → Leads causes effects (slice_index members k) (slice_index members (k + 1))
  pub back : (k : ℕ) → k + 1 ≡ length members
      → Leads causes effects (slice_index members k) (slice_index members 0)

-- the cycle that is answered: it goes from the first node that reaches itself, no way from there
-- back is shorter, and each next member is the first of those that stand on a shortest way
pub record IsFirstCycle (causes effects : List (List ℕ)) (members : List ℕ) : Type 0 where
  pub ring : IsRing causes effects members
  pub first : (x : ℕ) → x < slice_index members 0 → Reaches causes effects x x → ⊥
  pub shortest : (n : ℕ)
      → Way causes effects (suc n) (slice_index members 0) (slice_index members 0)
      → length members ≤ suc n
  pub earliest : (k n y : ℕ) → k + 1 + suc n ≡ length members
      → Leads causes effects (slice_index members k) y
      → Way causes effects (suc n) y (slice_index members 0) → slice_index members (k + 1) ≤ y

-- a cycle from the node x: it begins there, no way from there back is shorter, and each next member
-- is the first of those that stand on a shortest way
pub record IsCycleFrom (causes effects : List (List ℕ)) (x : ℕ) (members : List ℕ) : Type 0 where
  pub ring : IsRing causes effects members
  pub begins : slice_index members 0 ≡ x
  pub shortest : (n : ℕ) → Way causes effects (suc n) x x → length members ≤ suc n
  pub earliest : (k n y : ℕ) → k + 1 + suc n ≡ length members
      → Leads causes effects (slice_index members k) y
      → Way causes effects (suc n) y x → slice_index members (k + 1) ≤ y
