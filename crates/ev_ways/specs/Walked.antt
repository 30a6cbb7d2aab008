-- What the walk along a shortest cycle keeps.
use Rattle.std.specs.Prelude.{◌≡◌, ℕ, suc, ◌+◌, ◌<◌, ◌≤◌, List, Option, length, slice_index}
use Rattle.ev_ways.specs.Ways.{Leads, Way}
use Rattle.ev_ways.specs.Best.{IsBest}
use Rattle.ev_ways.specs.declared.step.Step.{Step}

pub record IsWalked (causes effects : List (List ℕ)) (goal : ℕ) (distance : List (Option ℕ))
    (first : Step) (members : List ℕ) (step : Step) : Type 0 where
  pub begins : slice_index members 0 ≡ goal
  pub some : 0 < length members
  pub lengths : length members + step.distance ≡ first.distance + 1
  pub next : (k : ℕ) → k + 1 < length members
      → Leads causes effects (slice_index members k) (slice_index members (k + 1))
  pub earliest : (k n y : ℕ) → k + 1 < length members → k + 1 + suc n ≡ first.distance + 1
      → Leads causes effects (slice_index members k) y
      → Way causes effects (suc n) y goal → slice_index members (k + 1) ≤ y
  pub last : (k : ℕ) → k + 1 ≡ length members
      → IsBest (Leads causes effects (slice_index members k)) distance step
