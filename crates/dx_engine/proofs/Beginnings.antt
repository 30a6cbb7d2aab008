-- The state that a module begins in stands.
use Rattle.std.proofs.Common.{◌≡◌, ℕ, List, [], map, refl, sym, ap, ◌∙◌, subst, IsTrue}
use Rattle.std.specs.List.{AllByRecursion}
use Rattle.fm_entry.specs.declared.list_event.ListEvent.{ListEvent}
use Rattle.fm_core.specs.Meaning.{Diagnosis}
use Rattle.ev_graph.specs.declared.nodes.EngineSpec.{EngineSpec}
use Rattle.dx_serd.specs.Rates.{RateOf}
use Rattle.dx_case.specs.Cases.{open_of}
use Rattle.dx_meaning.specs.Fresh.{first_of, fresh_of}
use Rattle.dx_meaning.proofs.Beginning.{fresh_lawful}
use Rattle.dx_state.specs.Configured.{Rules, found_at, configuration_at}
use Rattle.dx_step.specs.Lawful.{are_rules, is_there, is_lawful}
use Rattle.dx_turn.specs.declared.tracked.Tracked.{Tracked}
use Rattle.dx_turn.specs.Grounds.{AreRates}
use Rattle.dx_turn.specs.Reloading.{fresh_rates}
use Rattle.dx_turn.specs.Standing.{still_of}
use Rattle.dx_turn.specs.Tracking.{cases_before, IsCurrent}
use Rattle.dx_engine.specs.Standing.{StandingParts, whole_state, AreStanding}
use Rattle.dx_engine.proofs.Placing.{rates_fresh}
use Rattle.dx_turn.proofs.Reloads.{kept_fresh}

-- parts to which nothing has happened
abbrev pub first_parts : ℕ → List Tracked → List ListEvent → List RateOf → StandingParts
first_parts conf cs ws rs = record {
  conf = conf;
  time = 0;
  next = 0;
  cases = cs;
  solved = ws;
  engines = rs;
}

pub record AreFirst (r : Rules) (conf : ℕ) (cs : List Tracked) (ws : List ListEvent)
    (rs : List RateOf) : Type 0 where
  pub first : conf ≡ first_of r.configurations
  pub none_open : cs ≡ []
  pub none_solved : ws ≡ []
  pub fresh : rs ≡ fresh_rates (configuration_at r conf).graph.engines

state_made : ℕ → List Tracked → List ListEvent → List (List ℕ) → Diagnosis
state_made conf cs ws ks = record {
  conf = conf;
  time = 0;
  next = 0;
  open_cases = map open_of (cases_before cs);
  solved = ws;
  engines = ks;
}

pub fresh_state : (r : Rules) (conf : ℕ) (cs : List Tracked) (ws : List ListEvent)
    (rs : List RateOf) → AreFirst r conf cs ws rs
    → whole_state (first_parts conf cs ws rs) ≡ fresh_of r
unfolding state_made
fresh_state r conf cs ws rs h =
    let engines : map (λ (x : RateOf). x.kept) rs
    ≡ map (λ (e : EngineSpec). [])
    (configuration_at r (first_of r.configurations)).graph.engines =
    ap (map (λ (x : RateOf). x.kept)) h.fresh
    ∙ kept_fresh (configuration_at r conf).graph.engines
    ∙ ap (λ (n : ℕ). map (λ (e : EngineSpec). []) (configuration_at r n).graph.engines) h.first in
    λ i. state_made (h.first i) (h.none_open i) (h.none_solved i) (engines i)

pub fresh_stands : (r : Rules) (conf : ℕ) (cs : List Tracked) (ws : List ListEvent)
    (rs : List RateOf) → IsTrue (are_rules r)
    → IsTrue (is_there (found_at r.configurations (first_of r.configurations)))
    → AreFirst r conf cs ws rs → AreStanding r (first_parts conf cs ws rs)
fresh_stands r conf cs ws rs rules there h = record {
  lawful = subst (λ (s : Diagnosis). IsTrue (is_lawful r s)) (sym (fresh_state r conf cs ws rs h))
      (fresh_lawful r rules there);
  still = subst (λ (ts : List Tracked). ts ≡ map still_of (cases_before ts)) (sym h.none_open) refl;
  current = subst (λ (ts : List Tracked).
      AllByRecursion (IsCurrent (configuration_at r conf).graph 0) (cases_before ts))
      (sym h.none_open) tt;
  rates = subst (AreRates 0 (configuration_at r conf).graph.engines) (sym h.fresh)
      (rates_fresh 0 (configuration_at r conf).graph.engines);
}
