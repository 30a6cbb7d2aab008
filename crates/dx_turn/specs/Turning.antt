-- What a turn has come to.
use Rattle.std.specs.Prelude.{◌≡◌, ◌∷◌, ℕ, Bool, List, [], map, Option, Some, None}
use Rattle.std.specs.Prelude.{slice_get, if◌then◌else◌, IsTrue}
use Rattle.std.specs.List.{list_all}
use Rattle.fm_entry.specs.declared.list_event.ListEvent.{ListEvent}
use Rattle.fm_core.specs.Meaning.{OpenCase}
use Rattle.ev_graph.specs.Kinds.{is_report_node}
use Rattle.dx_serd.specs.Rates.{RateOf}
use Rattle.dx_explain.specs.Cases.{waits}
use Rattle.dx_said.specs.Making.{with_words}
use Rattle.dx_step.specs.Turns.{Turn, noted_at, decide}
use Rattle.dx_turn.specs.declared.ground.Ground.{Ground}
use Rattle.dx_turn.specs.declared.told.Told.{Told}
use Rattle.dx_turn.specs.Grounds.{AreRates, rules_on}

-- a list that was made, or the one from before
abbrev pub made_or : {A : Type 0} → Option (List A) → List A → List A
made_or None before = before
made_or (Some made) before = made

-- the engines, and the last words of solved cases
abbrev pub rates_by : Ground → Told → List RateOf
rates_by d t = made_or t.engines d.engines.now

abbrev pub solved_by : Ground → Told → List ListEvent
solved_by d t = with_words t.solved (made_or t.marked d.last_words.now)

-- the turn, where the next case gets this number and these cases are open
abbrev pub turn_at : Ground → ℕ → List OpenCase → Told → Turn
turn_at d next cs t = record {
  state = record {
    conf = d.conf;
    time = d.time;
    next = next;
    open_cases = cs;
    solved = solved_by d t;
    engines = map (λ r. r.kept) (rates_by d t);
  };
  fired = t.fired;
  words = t.words;
}

-- the engines are those of the graph, and what fired are reports of it
pub record IsTold (d : Ground) (t : Told) : Type 0 where
  pub rates : AreRates d.time d.graph.now.engines (rates_by d t)
  pub fired : IsTrue (list_all (is_report_node d.graph.now.nodes) t.fired)

-- whatever cases are open, what was told makes of a turn what this makes of it
pub record HasTurned (d : Ground) (f : Turn → Turn) (old new : Told) : Type 0 where
  pub turn : (next : ℕ) (cs : List OpenCase) → turn_at d next cs new ≡ f (turn_at d next cs old)
  pub told : IsTold d new

-- the engine of the graph at a place notes the time
abbrev pub noted_in : Ground → ℕ → Turn → Turn
noted_in d at t =
    noted_at at (slice_get d.graph.now.engines at) (slice_get t.state.engines at) t

-- the case is decided, unless it waits
abbrev pub decided_or_left : Ground → Bool → OpenCase → Turn → Turn
decided_or_left d notes c t =
    if waits d.graph.now d.time c then t else decide (rules_on d) notes c t

-- the case, where it waits
abbrev pub left_of : Ground → OpenCase → List OpenCase
left_of d c = if waits d.graph.now d.time c then c ∷ [] else []
