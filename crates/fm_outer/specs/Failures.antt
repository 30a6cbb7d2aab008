-- What a call of an outside object makes of its count of failures.
use Rattle.std.specs.Prelude.{◌≡◌, ℕ, ◌+◌, ◌-◌, ◌^◌, ◌≤◌, min, Result, Ok, Err}

-- one more, up to the largest number
abbrev pub counted : ℕ → ℕ
counted n = min (n + 1) (2 ^ 64 - 1)

-- the count rose and never fell; one that stands at the largest number counts as risen
abbrev pub Rose : ℕ → ℕ → Type 0
Rose before now = (before ≤ now) × (counted before ≤ now)

-- A call that was done leaves the count as it was, and one that failed raised it.
abbrev pub HasCause : {T E : Type 0} → ℕ → ℕ → Result T E → Type 0
HasCause before now (Ok value) = now ≡ before
HasCause before now (Err error) = Rose before now
