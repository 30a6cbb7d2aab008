-- Diagnosis modules.
use Rattle.std.specs.Prelude.{ℕ, map}
use Rattle.ev_graph.specs.Lawful.{GraphValue}
use Rattle.ev_guards.specs.Guards.{GuardsValue}
use Rattle.dx_rules.specs.Payloads.{guarding_of}
use Rattle.dx_meaning.specs.DiagnoserMeaning.{diagnoser_meaning}
use Rattle.dx_rules.specs.Rulebooks.{rules_in}
use Rattle.dx_rules.specs.declared.rulebook.Rulebook.{Rulebook}
use Rattle.dx_state.specs.Configured.{Rules, Single, unguarded}
use Rattle.dx_restore.specs.declared.parts.Loaded.{Loaded}
use Rattle.dx_engine.specs.Standing.{StandingParts, state_of}
use Rattle.dx_engine.specs.declared.standing.StandingState.{StandingState}
use Rattle.dx_turn.specs.Standing.{still_of}
use Rattle.fm_core.specs.Meaning.{Diagnosing}
use Rattle.fm_core.specs.declared.module.Module.{Ghosts}

-- its rules, and what stands under them
pub record DiagnoserOf : Type 0 where
  pub rules : Rulebook
  pub standing : StandingState

-- How contracts see a diagnosis module as a module: by the meaning of its rules, and by the state
-- that it stands for.
abbrev pub diagnosers : Ghosts DiagnoserOf
diagnosers = record {
  meaning = λ d. diagnoser_meaning (rules_in d.rules);
  state = λ d. Diagnosing (state_of d.standing);
}

-- the rules of the module of a number with one configuration
abbrev pub single_rules : ℕ → ℕ → GraphValue → Rules
single_rules own conf g = record {
  own = own;
  configurations = Single conf (record { graph = g; guarding = unguarded });
}

-- the same, with guards
abbrev pub guarded_rules : ℕ → ℕ → GraphValue → GuardsValue → Rules
guarded_rules own conf g v = record {
  own = own;
  configurations = Single conf (record { graph = g; guarding = guarding_of v });
}

-- what stands of a state that was loaded
abbrev pub standing_parts : Loaded → StandingParts
standing_parts l = record {
  conf = l.conf;
  time = l.time;
  next = l.next;
  cases = map still_of l.cases.items;
  solved = l.solved.items;
  engines = l.engines.items;
}
