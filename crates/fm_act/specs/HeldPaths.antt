-- What an actuator holds: a set of paths, listed in path order.
use Rattle.std.specs.Prelude.{◌≡◌, ◌≢◌, ◌⊎◌, ◌↔◌, ℕ, ◌≤◌, List, Option, None, Some, Result}
use Rattle.std.specs.Prelude.{OnOk, IfErr, Contains, slice_get, nat_lt, if◌then◌else◌}
use Rattle.fm_outer.specs.Failures.{Rose}
use Rattle.fm_act.specs.declared.faults.ActFault.{ActFault}
use Rattle.fm_act.specs.declared.faults.ActFault.TheVariants.{Failed, NoMemory}

-- the path at a place, where the place is below the number of paths and below 65,536
abbrev pub listed_at : List (List ℕ) → ℕ → Option (List ℕ)
listed_at paths at = if nat_lt at 65536 then slice_get paths at else None

-- a failure comes only where the count rose
abbrev pub IsActCallFault : ℕ → ℕ → ActFault → Type 0
IsActCallFault before now Failed = Rose before now
IsActCallFault before now NoMemory = Unit {0}

-- the count never falls, an Ok leaves it, and a failure comes only where it rose
pub record ActCallCause {T : Type 0} (before now : ℕ) (result : Result T ActFault) : Type 0 where
  pub later : before ≤ now
  pub quiet : OnOk result (now ≡ before)
  pub failed : IfErr result (IsActCallFault before now)

-- the path is held now, and besides it what was held
abbrev pub AddsPath : List ℕ → Option (List (List ℕ)) → Option (List (List ℕ)) → Type 0
AddsPath path None new = Unit {0}
AddsPath path (Some xs) None = ⊥
AddsPath path (Some xs) (Some ys) = (other : List ℕ) → Contains ys other
    ↔ ((other ≡ path) ⊎ Contains xs other)

-- the path isn't held now, and all else that was held is
abbrev pub TakesPath : List ℕ → Option (List (List ℕ)) → Option (List (List ℕ)) → Type 0
TakesPath path None new = Unit {0}
TakesPath path (Some xs) None = ⊥
TakesPath path (Some xs) (Some ys) = (other : List ℕ) → Contains ys other
    ↔ ((other ≢ path) × Contains xs other)
