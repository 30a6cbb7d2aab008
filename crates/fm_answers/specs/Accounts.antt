-- How the count of faults of an outside object goes with the answer of a step.
use Rattle.std.specs.Prelude.{◌≡◌, ℕ, ◌≤◌, Result, Ok, Err}
use Rattle.fm_outer.specs.Failures.{Rose}
use Rattle.fm_answers.specs.declared.stops.Stop.{Stop}

-- An Ok leaves the count. Otherwise it doesn't fall, and this fault comes only where it rose.
abbrev pub Accounts : {T : Type 0} → Stop → ℕ → ℕ → Result T Stop → Type 0
Accounts fault before now (Ok done) = now ≡ before
Accounts fault before now (Err stop) = (before ≤ now) × (stop ≡ fault → Rose before now)
