-- What a turn stands on.
use Rattle.std.specs.Prelude.{◌≡◌, ℕ, List, [], ◌∷◌, IsTrue}
use Rattle.fm_core.specs.Meaning.{Diagnosis}
use Rattle.ev_graph.specs.declared.nodes.EngineSpec.{EngineSpec}
use Rattle.dx_serd.specs.Rates.{RateOf, none_past}
use Rattle.dx_state.specs.Configured.{Rules, configuration_at}
use Rattle.dx_rules.specs.Rulebooks.{rules_in}
use Rattle.dx_turn.specs.declared.ground.Ground.{Ground}

-- the rules of the module, and its own number
abbrev pub rules_on : Ground → Rules
rules_on d = rules_in d.rules.now

abbrev pub own_of : Ground → ℕ
own_of d = d.rules.now.own

-- a state at the turn's time, in the configuration in force
abbrev pub state_on : Ground → Diagnosis
state_on d = record {
  conf = d.conf;
  time = d.time;
  next = 0;
  open_cases = [];
  solved = [];
  engines = [];
}

-- the graph is that of the configuration in force
pub record IsGround (d : Ground) : Type 0 where
  pub graph : (configuration_at (rules_on d) d.conf).graph ≡ d.graph.now

-- these are engines of these kinds, and none of them keeps a moment past this one
abbrev pub AreRates : ℕ → List EngineSpec → List RateOf → Type 0
AreRates time [] [] = Unit {0}
AreRates time (e ∷ es) (r ∷ rs) =
    (r.n ≡ e.n) × ((r.t ≡ e.t) × (IsTrue (none_past time r.kept) × AreRates time es rs))
AreRates time _ _ = ⊥
