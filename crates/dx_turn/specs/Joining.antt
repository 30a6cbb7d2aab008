-- Reports that join open cases or open one.
use Rattle.std.specs.Prelude.{◌≡◌, ◌<◌, ℕ, Bool, true, false}
use Rattle.std.specs.Prelude.{List, length, Option, Some, None, take}
use Rattle.std.specs.List.{All, HoldsAt, list_any}
use Rattle.fm_core.specs.Meaning.{OpenCase}
use Rattle.dx_explain.specs.Cases.{takes_report}
use Rattle.dx_case.specs.Starts.{AreStartsOf}
use Rattle.dx_step.specs.Turns.{Turn}
use Rattle.dx_step.specs.Reports.{join_or_open, place_of_report}
use Rattle.dx_turn.specs.declared.ground.Ground.{Ground}
use Rattle.dx_turn.specs.declared.joining.Incoming.{Incoming}
use Rattle.dx_turn.specs.declared.tracked.Tracked.{Tracked}
use Rattle.dx_turn.specs.declared.work.Work.{Work}
use Rattle.dx_turn.specs.Grounds.{rules_on}
use Rattle.dx_turn.specs.Turning.{turn_at, IsTold}
use Rattle.dx_turn.specs.Tracking.{opens_of, opens_in, IsTrackedAt}

-- a report of the node joins one of these cases
abbrev pub takes_any : Ground → ℕ → List OpenCase → Bool
takes_any d node cs = list_any (takes_report d.graph.now d.time node) cs

-- the place of the first case that a report of the node joins
pub record IsFirstPlace (d : Ground) (node : ℕ) (ts : List Tracked) (at : ℕ) : Type 0 where
  pub low : at < length ts
  pub none_before : takes_any d node (opens_in (take at ts)) ≡ false
  pub takes : HoldsAt (λ t. takes_any d node (opens_of t) ≡ true) ts at

abbrev pub IsFoundPlace : Ground → ℕ → List Tracked → Option ℕ → Type 0
IsFoundPlace d node ts None = takes_any d node (opens_in ts) ≡ false
IsFoundPlace d node ts (Some at) = IsFirstPlace d node ts at

-- the turn
abbrev pub turn_of : Ground → Work → Turn
turn_of d w = turn_at d w.next (opens_in w.cases.items) w.told

-- what a turn keeps to
pub record IsWork (d : Ground) (w : Work) : Type 0 where
  pub told : IsTold d w.told
  pub current : All (IsTrackedAt d.graph.now d.time) w.cases.items
  pub starts : AreStartsOf d.graph.now w.starts

-- a report joins a case or opens one
abbrev pub joined_by : Ground → Incoming → Turn → Turn
joined_by d i t =
    join_or_open (rules_on d) i.notes i.entry i.node i.links.now
    (place_of_report (rules_on d) i.node t) t

-- the turn went on
pub record HasGone (d : Ground) (f : Turn → Turn) (old new : Work) : Type 0 where
  pub turn : turn_of d new ≡ f (turn_of d old)
  pub work : IsWork d new
