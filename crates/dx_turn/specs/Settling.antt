-- Open cases as time passes.
use Rattle.std.specs.Prelude.{◌≡◌, ◌++◌, ◌∷◌, ℕ, true, false, List, [], Option, Some, None}
use Rattle.fm_core.specs.Meaning.{OpenCase}
use Rattle.ev_graph.specs.Lawful.{GraphValue}
use Rattle.dx_explain.specs.Cases.{waits}
use Rattle.dx_case.specs.declared.case.Case.{Case}
use Rattle.dx_case.specs.Cases.{open_of, time_of, waits_at, IsCaseOf, IsBefore}
use Rattle.dx_step.specs.Turns.{settle_each}
use Rattle.dx_turn.specs.declared.ground.Ground.{Ground}
use Rattle.dx_turn.specs.declared.told.Told.{Told}
use Rattle.dx_turn.specs.declared.tracked.Tracked.{Tracked}
use Rattle.dx_turn.specs.Grounds.{rules_on}
use Rattle.dx_turn.specs.Turning.{turn_at, IsTold}
use Rattle.dx_turn.specs.Tracking.{opens_of, IsCurrent}

-- the case waits at the moment that it has come to, which is not after a time
pub record IsWaiting (g : GraphValue) (time : ℕ) (c : Case) : Type 0 where
  pub case : IsCaseOf g c
  pub before : IsBefore (time_of c) time
  pub waits : waits_at g (time_of c) (open_of c) ≡ true

-- before a turn at a time: an open case that waits, unchanged
pub record IsBeforeTurn (g : GraphValue) (time : ℕ) (t : Tracked) : Type 0 where
  pub unchanged : t.changed ≡ None
  pub undecided : t.decided ≡ false
  pub waiting : (c : Case) → t.kept ≡ Some c → IsWaiting g time c

-- the case was moved to the time; or it needs not be, and waits then
abbrev pub IsMoved : GraphValue → ℕ → Tracked → Option Case → Type 0
IsMoved g time t None = (c : Case) → t.kept ≡ Some c
    → IsCurrent g time c × (waits g time (open_of c) ≡ true)
IsMoved g time t (Some moved) = (opens_of t ≡ open_of moved ∷ [])
    × (IsCaseOf g moved × (time_of moved ≡ Some time))

-- Whatever cases are open, what was told makes of a turn what settling makes of it, and these are
-- left open of those.
pub record HasSettled (d : Ground) (cases left : List OpenCase) (old new : Told) : Type 0 where
  pub turn : (next : ℕ) (cs : List OpenCase) → turn_at d next (cs ++ left) new
      ≡ settle_each (rules_on d) true cases (turn_at d next cs old)
  pub told : IsTold d new
