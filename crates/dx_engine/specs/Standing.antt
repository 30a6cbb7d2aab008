-- What a standing state keeps between turns, and what it stands for.
use Rattle.std.specs.Prelude.{◌≡◌, ℕ, List, map, Option, Some, None, IsTrue}
use Rattle.std.specs.List.{AllByRecursion}
use Rattle.fm_entry.specs.declared.list_event.ListEvent.{ListEvent}
use Rattle.fm_core.specs.Meaning.{Diagnosis}
use Rattle.dx_serd.specs.Rates.{RateOf}
use Rattle.dx_case.specs.Cases.{open_of}
use Rattle.dx_case.specs.Starts.{AreStartsOf}
use Rattle.dx_said.specs.Making.{with_words}
use Rattle.dx_state.specs.Configured.{Rules, configuration_at}
use Rattle.dx_step.specs.Lawful.{is_lawful}
use Rattle.dx_rules.specs.declared.rulebook.Rulebook.{Rulebook}
use Rattle.dx_turn.specs.declared.ground.Ground.{Ground}
use Rattle.dx_turn.specs.declared.tracked.Tracked.{Tracked}
use Rattle.dx_turn.specs.declared.work.Work.{Work}
use Rattle.dx_turn.specs.declared.reloading.Reloaded.{Reloaded}
use Rattle.dx_turn.specs.Grounds.{IsGround, AreRates}
use Rattle.dx_turn.specs.Turning.{made_or}
use Rattle.dx_turn.specs.Tracking.{tracked_cases, cases_before, IsCurrent}
use Rattle.dx_turn.specs.Standing.{still_of}
use Rattle.dx_engine.specs.declared.standing.StandingState.{StandingState}

-- its configuration, its time, the number of the next case, the open cases, the last words of
-- solved cases, and the engines
pub record StandingParts : Type 0 where
  pub conf : ℕ
  pub time : ℕ
  pub next : ℕ
  pub cases : List Tracked
  pub solved : List ListEvent
  pub engines : List RateOf

abbrev pub kept_parts : StandingState → StandingParts
kept_parts s = record {
  conf = s.conf;
  time = s.time;
  next = s.next;
  cases = s.cases.items;
  solved = s.solved.items;
  engines = s.engines.items;
}

-- the state that these parts stand for
abbrev pub whole_state : StandingParts → Diagnosis
whole_state p = record {
  conf = p.conf;
  time = p.time;
  next = p.next;
  open_cases = map open_of (cases_before p.cases);
  solved = p.solved;
  engines = map (λ r. r.kept) p.engines;
}

abbrev pub state_of : StandingState → Diagnosis
state_of s = whole_state (kept_parts s)

-- the parts stand for a lawful state of a module with these rules; no turn is in the midst of them;
-- each open case answers at the time as it does at the moment that it has come to; and the engines
-- are those of the graph
pub record AreStanding (r : Rules) (p : StandingParts) : Type 0 where
  pub lawful : IsTrue (is_lawful r (whole_state p))
  pub still : p.cases ≡ map still_of (cases_before p.cases)
  pub current :
      AllByRecursion (IsCurrent (configuration_at r p.conf).graph p.time) (cases_before p.cases)
  pub rates : AreRates p.time (configuration_at r p.conf).graph.engines p.engines

-- so do its parts, and what was found for nodes that open cases is right in the graph in force
pub record IsStanding (r : Rules) (s : StandingState) : Type 0 where
  pub parts : AreStanding r (kept_parts s)
  pub starts : AreStartsOf (configuration_at r s.conf).graph s.starts

-- the configuration and the engines after a turn
abbrev pub conf_by : ℕ → Option Reloaded → ℕ
conf_by conf None = conf
conf_by conf (Some x) = x.conf

abbrev pub engines_by : List RateOf → Option Reloaded → List RateOf
engines_by engines None = engines
engines_by engines (Some x) = x.engines.items

-- what a turn has come to at a time, put in place
abbrev pub put_parts : StandingParts → ℕ → Work → Option Reloaded → StandingParts
put_parts p time w x = record {
  conf = conf_by p.conf x;
  time = time;
  next = w.next;
  cases = map still_of (tracked_cases w.cases.items);
  solved = with_words w.told.solved (made_or w.told.marked p.solved);
  engines = engines_by (made_or w.told.engines p.engines) x;
}

-- the parts with these open cases, as they were before the turn
abbrev pub undone_parts : StandingParts → List Tracked → StandingParts
undone_parts p ts = record p { cases = map still_of (cases_before ts) }

-- the parts after the engines of a turn, or those of another configuration, were put in place
abbrev pub with_engines : StandingParts → Option (List RateOf) → Option Reloaded → StandingParts
with_engines p made x = record p {
  conf = conf_by p.conf x;
  engines = engines_by (made_or made p.engines) x;
}

-- what a turn at a time stands on, from these parts
pub record IsGroundOf (b : Rulebook) (p : StandingParts) (at : ℕ) (d : Ground) : Type 0 where
  pub rules : d.rules.now ≡ b
  pub ground : IsGround d
  pub time : d.time ≡ at
  pub conf : d.conf ≡ p.conf
  pub engines : d.engines.now ≡ p.engines
  pub last_words : d.last_words.now ≡ p.solved
