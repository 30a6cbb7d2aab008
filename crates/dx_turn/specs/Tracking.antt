-- Open cases as a turn changes them.
use Rattle.std.specs.Prelude.{◌≡◌, ◌++◌, ◌∷◌, ℕ, List, [], map, Option, Some}
use Rattle.std.specs.Prelude.{None, if◌then◌else◌}
use Rattle.std.specs.List.{cons_option}
use Rattle.fm_core.specs.Meaning.{OpenCase}
use Rattle.ev_graph.specs.Lawful.{GraphValue}
use Rattle.dx_explain.specs.Cases.{waits, takes_report}
use Rattle.dx_case.specs.declared.case.Case.{Case}
use Rattle.dx_case.specs.Cases.{open_of, time_of, waits_at, takes_at, IsCaseOf, IsBefore}
use Rattle.dx_turn.specs.declared.tracked.Tracked.{Tracked}

abbrev pub first_case : Option Case → Option Case → List Case
first_case (Some c) o = c ∷ []
first_case None o = cons_option o []

-- the case as it is now: none where it was decided
abbrev pub now_of : Tracked → List Case
now_of t = if t.decided then [] else first_case t.changed t.kept

-- the cases as they are now
abbrev pub tracked_cases : List Tracked → List Case
tracked_cases [] = []
tracked_cases (t ∷ ts) = now_of t ++ tracked_cases ts

-- the cases as they were before the turn
abbrev pub cases_before : List Tracked → List Case
cases_before [] = []
cases_before (t ∷ ts) = cons_option t.kept (cases_before ts)

-- the same as open cases
abbrev pub opens_of : Tracked → List OpenCase
opens_of t = map open_of (now_of t)

abbrev pub opens_in : List Tracked → List OpenCase
opens_in [] = []
opens_in (t ∷ ts) = opens_of t ++ opens_in ts

-- at a time the case answers as it does at the moment that it has come to
pub record IsCurrent (g : GraphValue) (time : ℕ) (c : Case) : Type 0 where
  pub case : IsCaseOf g c
  pub before : IsBefore (time_of c) time
  pub waits : waits_at g (time_of c) (open_of c) ≡ waits g time (open_of c)
  pub takes : (node : ℕ) → takes_at g (time_of c) node (open_of c)
      ≡ takes_report g time node (open_of c)

pub record IsTrackedAt (g : GraphValue) (time : ℕ) (t : Tracked) : Type 0 where
  pub each : (c : Case) → now_of t ≡ c ∷ [] → IsCurrent g time c

-- it is open
abbrev pub HasOpen : Tracked → Type 0
HasOpen t = (now_of t ≡ []) → ⊥
