-- What stands of a state that was loaded.
use Rattle.std.proofs.Common.{◌≡◌, ℕ, zero, suc, ◌&&◌, IsTrue, List, [], ◌∷◌, map, refl}
use Rattle.std.proofs.Common.{sym, ap, arith, subst}
use Rattle.std.specs.List.{All, AllByRecursion}
use Rattle.std.proofs.lemmas.Bool.{false≢true, and_parts}
use Rattle.fm_core.specs.Meaning.{Diagnosis}
use Rattle.ev_graph.specs.Lawful.{GraphValue}
use Rattle.ev_graph.specs.declared.nodes.EngineSpec.{EngineSpec}
use Rattle.dx_serd.specs.Rates.{RateOf, are_kept, none_past}
use Rattle.dx_case.specs.declared.case.Case.{Case}
use Rattle.dx_case.specs.Cases.{open_of}
use Rattle.dx_state.specs.Configured.{Rules, configuration_at}
use Rattle.dx_state.specs.LawfulState.{are_engines}
use Rattle.dx_step.specs.Lawful.{is_lawful}
use Rattle.dx_step.proofs.Stepping.{lawful_is}
use Rattle.dx_restore.specs.declared.parts.Loaded.{Loaded}
use Rattle.dx_restore.specs.Loading.{IsLoaded}
use Rattle.dx_restore.specs.Parts.{loaded_state, IsCaseAt, engines_with}
use Rattle.dx_turn.specs.Grounds.{AreRates}
use Rattle.dx_turn.specs.Standing.{still_of}
use Rattle.dx_turn.specs.Tracking.{IsCurrent}
use Rattle.dx_turn.proofs.Moving.{current_at}
use Rattle.dx_engine.specs.Standing.{whole_state, AreStanding}
use Rattle.dx_engine.proofs.Beginning.{kept_still}
use Rattle.dx_engine.specs.Diagnosers.{standing_parts}

rates_with : (time : ℕ) (es : List EngineSpec) (ks : List (List ℕ))
    → IsTrue (are_engines time es ks) → AreRates time es (engines_with es ks)
rates_with time [] [] h = tt
rates_with time [] (k ∷ ks) h = absurd (false≢true h)
rates_with time (e ∷ es) [] h = absurd (false≢true h)
rates_with time (e ∷ es) (k ∷ ks) h =
    let parts = and_parts (are_kept e.n e.t k && none_past time k) _ h in
    (refl, (refl, ((and_parts (are_kept e.n e.t k) _ parts.0).1, rates_with time es ks parts.1)))

current_all : (g : GraphValue) (time : ℕ) (cs : List Case) → All (IsCaseAt g time) cs
    → AllByRecursion (IsCurrent g time) cs
current_all g time [] h = tt
current_all g time (c ∷ cs) h =
    let one = h zero c (omega arith) in (
      current_at g time c one.case one.moment,
      current_all g time cs (λ k d low. h (suc k) d (omega arith)),
    )

pub loaded_same : (l : Loaded) → whole_state (standing_parts l) ≡ loaded_state l
loaded_same l =
    ap (λ (cs : List Case). record (loaded_state l) { open_cases = map open_of cs })
    (kept_still l.cases.items)

pub loaded_stands : (r : Rules) (bytes : List ℕ) (l : Loaded) → IsLoaded r bytes l
    → AreStanding r (standing_parts l)
loaded_stands r bytes l h =
    let cs = l.cases.items in
    let g = (configuration_at r l.conf).graph in
    let lawful = lawful_is r (loaded_state l) h.lawful in
    record {
      lawful = subst (λ (s : Diagnosis). IsTrue (is_lawful r s)) (sym (loaded_same l)) h.lawful;
      still = ap (map still_of) (sym (kept_still cs));
      current = subst (AllByRecursion (IsCurrent g l.time)) (sym (kept_still cs))
          (current_all g l.time cs h.parts.cases);
      rates = subst (AreRates l.time g.engines) (sym h.parts.engines)
          (rates_with l.time g.engines (map (λ (e : RateOf). e.kept) l.engines.items)
          lawful.state.engines);
    }
