-- A turn begins at a standing state.
use Rattle.std.proofs.Common.{◌≡◌, ℕ, zero, suc, ◌<◌, ◌≤◌, ◌^◌, true, IsTrue}
use Rattle.std.proofs.Common.{List, [], ◌∷◌, map, refl, ap, ◌∙◌, arith, subst}
use Rattle.std.proofs.Common.{Option, Some, None}
use Rattle.std.specs.List.{All, AllByRecursion, list_all}
use Rattle.std.proofs.lemmas.Bool.{and_parts}
use Rattle.fm_core.specs.Meaning.{OpenCase, Diagnosis}
use Rattle.ev_graph.specs.Lawful.{GraphValue}
use Rattle.ev_incidence.specs.Sets.{ascends}
use Rattle.ev_graph.specs.declared.nodes.EngineSpec.{EngineSpec}
use Rattle.dx_serd.specs.Rates.{RateOf}
use Rattle.dx_serd.proofs.Moments.{past_later}
use Rattle.dx_explain.specs.Cases.{waits}
use Rattle.dx_case.specs.declared.case.Case.{Case}
use Rattle.dx_case.specs.Cases.{open_of, time_of, IsBefore}
use Rattle.dx_state.specs.Configured.{Rules}
use Rattle.dx_state.specs.LawfulState.{solved_numbers}
use Rattle.dx_state.proofs.Lists.{ascends_of}
use Rattle.dx_step.specs.Turns.{begin_at, turn_cases, with_cases}
use Rattle.dx_step.specs.Turns.{settle_all}
use Rattle.dx_step.specs.Lawful.{is_lawful}
use Rattle.dx_step.proofs.Sound.{turn_with}
use Rattle.dx_step.proofs.Settling.{settled_each}
use Rattle.dx_step.proofs.Stepping.{lawful_is, begun}
use Rattle.dx_turn.specs.Grounds.{AreRates}
use Rattle.dx_turn.specs.Tracking.{opens_in, cases_before, IsCurrent}
use Rattle.dx_turn.specs.Settling.{IsWaiting, IsBeforeTurn}
use Rattle.dx_turn.specs.Standing.{still_of}

-- later, what engines keep is still not past
pub rates_later : (time later : ℕ) (es : List EngineSpec) (rs : List RateOf) → time ≤ later
    → AreRates time es rs → AreRates later es rs
rates_later time later [] [] low h = h
rates_later time later [] (r ∷ rs) low h = absurd h
rates_later time later (e ∷ es) [] low h = absurd h
rates_later time later (e ∷ es) (r ∷ rs) low h = (
  h.0,
  (
    h.1.0,
    (
      past_later time later r.kept low h.1.1.0,
      rates_later time later es rs low h.1.1.1,
    ),
  ),
)

-- once the open cases have settled, the last words ascend
pub settled_ascend : (r : Rules) (s : Diagnosis) (moment : ℕ) → moment < 2 ^ 62
    → IsTrue (is_lawful r s)
    → IsTrue (ascends (solved_numbers (settle_all r (begin_at moment s)).state.solved))
settled_ascend r s moment low h =
    let t = begin_at moment s in
    let begins = begun r s moment low (lawful_is r s h) in
    let done = settled_each r true (turn_cases t) (with_cases [] t)
    (turn_with r (turn_cases t) [] t begins) refl in
    ascends_of (solved_numbers (settle_all r t).state.solved) done.turn.sound.solved_strict

-- cases that no turn has changed
pub kept_still : (cs : List Case) → cases_before (map still_of cs) ≡ cs
kept_still [] = refl
kept_still (c ∷ cs) = ap (λ (ks : List Case). c ∷ ks) (kept_still cs)

pub opens_still : (cs : List Case) → opens_in (map still_of cs) ≡ map open_of cs
opens_still [] = refl
opens_still (c ∷ cs) = ap (λ (ks : List OpenCase). open_of c ∷ ks) (opens_still cs)

-- each is ready for a turn at a later time
before_later : (old new : ℕ) (o : Option ℕ) → old ≤ new → IsBefore o old → IsBefore o new
before_later old new None low b = b
before_later old new (Some time) low b = omega arith

ready_one : (g : GraphValue) (old new : ℕ) (c : Case) → old ≤ new → IsCurrent g old c
    → IsTrue (waits g old (open_of c)) → IsBeforeTurn g new (still_of c)
ready_one g old new c low h w = record {
  unchanged = refl;
  undecided = refl;
  waiting = λ k is.
      let same : c ≡ k = cc in
      subst (IsWaiting g new) same (record {
        case = h.case;
        before = before_later old new (time_of c) low h.before;
        waits = h.waits ∙ w;
      });
}

pub ready_all : (g : GraphValue) (old new : ℕ) (cs : List Case) → old ≤ new
    → AllByRecursion (IsCurrent g old) cs → IsTrue (list_all (waits g old) (map open_of cs))
    → All (IsBeforeTurn g new) (map still_of cs)
ready_all g old new [] low h w k d l = absurd (omega arith)
ready_all g old new (c ∷ cs) low h w zero d l =
    ready_one g old new c low h.0
    (and_parts (waits g old (open_of c)) (list_all (waits g old) (map open_of cs)) w).0
ready_all g old new (c ∷ cs) low h w (suc k) d l =
    ready_all g old new cs low h.1
    (and_parts (waits g old (open_of c)) (list_all (waits g old) (map open_of cs)) w).1 k d
    (omega arith)
