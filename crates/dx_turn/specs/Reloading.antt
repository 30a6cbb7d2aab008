-- Reloads: each open case is decided, and another configuration comes into force.
use Rattle.std.specs.Prelude.{◌≡◌, ◌∷◌, ℕ, List, [], map, Option, Some, None, if◌then◌else◌}
use Rattle.fm_entry.specs.declared.entry.Entry.{Entry}
use Rattle.ev_graph.specs.Lawful.{GraphValue}
use Rattle.ev_graph.specs.declared.nodes.EngineSpec.{EngineSpec}
use Rattle.dx_serd.specs.Rates.{RateOf, rate_of}
use Rattle.dx_case.specs.declared.case.Case.{Case}
use Rattle.dx_case.specs.Cases.{open_of, time_of, IsCaseOf}
use Rattle.dx_case.specs.Starts.{AreStartsOf}
use Rattle.dx_state.specs.Configured.{configuration_at}
use Rattle.dx_step.specs.Turns.{Turn, settle_all, decide_all}
use Rattle.dx_step.specs.Reports.{trips}
use Rattle.dx_step.specs.Step.{act, configure, is_above, reload}
use Rattle.dx_turn.specs.declared.ground.Ground.{Ground}
use Rattle.dx_turn.specs.declared.reloading.Reloaded.{Reloaded}
use Rattle.dx_turn.specs.declared.tracked.Tracked.{Tracked}
use Rattle.dx_turn.specs.declared.work.Work.{Work}
use Rattle.dx_turn.specs.Grounds.{rules_on}
use Rattle.dx_turn.specs.Tracking.{now_of, opens_of, tracked_cases}
use Rattle.dx_turn.specs.Joining.{turn_of, IsWork}

-- the case, finished; none where the turn has decided it
abbrev pub IsFinished : GraphValue → Tracked → Option Case → Type 0
IsFinished g t None = now_of t ≡ []
IsFinished g t (Some c) = (opens_of t ≡ open_of c ∷ []) × (IsCaseOf g c × (time_of c ≡ None))

-- engines of these kinds that have noted nothing
abbrev pub fresh_rates : List EngineSpec → List RateOf
fresh_rates es = map (λ e. rate_of e.n e.t []) es

-- the turn, once the configuration is in force, if one comes into force
abbrev pub with_reload : Option Reloaded → Turn → Turn
with_reload None t = t
with_reload (Some x) t = record t {
  state = record t.state { conf = x.conf; engines = map (λ r. r.kept) x.engines.items };
}

-- the configuration of a number comes into force, where it is a known one above the one in force
abbrev pub reloaded_to : Ground → ℕ → Turn → Turn
reloaded_to d conf t =
    if is_above (rules_on d) t.state conf
    then configure (rules_on d) conf (decide_all (rules_on d) t)
    else t

-- all parts of the turn of an entry
abbrev pub turned_by : Ground → ℕ → Entry → Turn → Turn
turned_by d number e t =
    reload (rules_on d) e
    (trips (rules_on d) number (act (rules_on d) number e (settle_all (rules_on d) t)))

-- no case is open, the engines of a configuration have noted nothing, and what was found for nodes
-- is right in its graph
pub record IsReloaded (d : Ground) (x : Reloaded) (w : Work) : Type 0 where
  pub none : tracked_cases w.cases.items ≡ []
  pub engines : x.engines.items ≡ fresh_rates (configuration_at (rules_on d) x.conf).graph.engines
  pub starts : AreStartsOf (configuration_at (rules_on d) x.conf).graph w.starts

-- where no configuration comes into force, what a turn keeps to; else it is so of that one
abbrev pub IsLeft : Ground → Option Reloaded → Work → Type 0
IsLeft d None w = IsWork d w
IsLeft d (Some x) w = IsReloaded d x w

-- the turn came to its end
pub record HasEnded (d : Ground) (f : Turn → Turn) (x : Option Reloaded) (old new : Work) : Type 0
  where
    pub turn : with_reload x (turn_of d new) ≡ f (turn_of d old)
    pub left : IsLeft d x new
