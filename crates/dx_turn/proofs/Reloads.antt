-- Open cases that are decided whatever they wait for, and configurations that come into force.
use Rattle.std.proofs.Common.{◌≡◌, ℕ, zero, suc, ◌+◌, ◌<◌, Bool, true, false, IsTrue}
use Rattle.std.proofs.Common.{List, [], ◌∷◌, ◌++◌, length, map, refl, sym, ap, ◌∙◌, arith, subst}
use Rattle.std.proofs.Common.{Option, Some, None, get_or, take, if◌then◌else◌, nat_lt, nat_le}
use Rattle.std.proofs.Common.{slice_get, append_assoc, ◌^◌}
use Rattle.std.proofs.Math.ListN.{set}
use Rattle.std.specs.List.{All, list_all}
use Rattle.std.proofs.lemmas.Bool.{and_parts, ltb-true, leb-true}
use Rattle.std.proofs.lemmas.List.{take_more_set, map-append}
use Rattle.fm_core.specs.Meaning.{OpenCase}
use Rattle.ev_incidence.specs.Sets.{ascends}
use Rattle.ev_graph.specs.declared.nodes.EngineSpec.{EngineSpec}
use Rattle.ev_graph.specs.Kinds.{has_limits}
use Rattle.ev_graph.specs.Lawful.{GraphValue, has_engine_limits, IsGraph}
use Rattle.dx_case.specs.declared.case.Case.{Case}
use Rattle.dx_case.specs.Cases.{open_of}
use Rattle.dx_case.specs.Starts.{AreStartsOf}
use Rattle.dx_serd.specs.Rates.{RateOf, IsLimited}
use Rattle.dx_state.specs.Configured.{Rules, Configuration}
use Rattle.dx_state.specs.Configured.{found_at, known_of, configuration_at}
use Rattle.dx_state.specs.LawfulState.{solved_numbers}
use Rattle.dx_step.specs.Lawful.{is_there}
use Rattle.dx_step.specs.Turns.{Turn, settle_all, decide, decide_each, decide_all}
use Rattle.dx_step.specs.Step.{is_above, configure}
use Rattle.dx_turn.specs.declared.ground.Ground.{Ground}
use Rattle.dx_turn.specs.declared.reloading.Reloaded.{Reloaded}
use Rattle.dx_turn.specs.declared.told.Told.{Told}
use Rattle.dx_turn.specs.declared.tracked.Tracked.{Tracked}
use Rattle.dx_turn.specs.declared.work.Work.{Work}
use Rattle.dx_turn.specs.Grounds.{rules_on, state_on}
use Rattle.dx_turn.specs.Turning.{turn_at, solved_by, HasTurned}
use Rattle.dx_turn.specs.Settling.{HasSettled}
use Rattle.dx_turn.specs.Tracking.{now_of, opens_of, opens_in, tracked_cases, IsTrackedAt}
use Rattle.dx_turn.specs.Joining.{turn_of, IsWork, HasGone}
use Rattle.dx_turn.specs.Reloading.{fresh_rates, with_reload, reloaded_to, HasEnded}
use Rattle.dx_turn.proofs.Turned.{turned_then, turned_as}
use Rattle.dx_turn.proofs.Passing.{opens_more}
use Rattle.dx_step.proofs.Stepping.{known_there}

decide_append : (r : Rules) (xs ys : List OpenCase) (t : Turn)
    → decide_each r (xs ++ ys) t ≡ decide_each r ys (decide_each r xs t)
decide_append r [] ys t = refl
decide_append r (x ∷ xs) ys t = decide_append r xs ys (decide r false x t)

-- no case is decided, or one
pub decided_none : (d : Ground) (t : Tracked) (a b : Told) → now_of t ≡ []
    → HasTurned d (λ u. u) a b → HasTurned d (decide_each (rules_on d) (opens_of t)) a b
decided_none d t a b none h =
    subst (λ (ks : List OpenCase). HasTurned d (decide_each (rules_on d) ks) a b)
    (sym (ap (map open_of) none)) (record { turn = h.turn; told = h.told })

pub decided_one : (d : Ground) (ks : List OpenCase) (c : OpenCase) (a b : Told) → ks ≡ c ∷ []
    → HasTurned d (decide (rules_on d) false c) a b
    → HasTurned d (decide_each (rules_on d) ks) a b
decided_one d ks c a b one h =
    subst (λ (ls : List OpenCase). HasTurned d (decide_each (rules_on d) ls) a b)
    (sym one) (record { turn = h.turn; told = h.told })

-- some more cases
decided_more : (d : Ground) (xs ys : List OpenCase) (a b c : Told)
    → HasTurned d (decide_each (rules_on d) xs) a b
    → HasTurned d (decide_each (rules_on d) ys) b c
    → HasTurned d (decide_each (rules_on d) (xs ++ ys)) a c
decided_more d xs ys a b c h k =
    turned_as d (λ t. decide_each (rules_on d) ys (decide_each (rules_on d) xs t))
    (decide_each (rules_on d) (xs ++ ys)) a c
    (λ next cs. sym (decide_append (rules_on d) xs ys (turn_at d next cs a)))
    (turned_then d (decide_each (rules_on d) xs) (decide_each (rules_on d) ys) a b c h k)

-- one more case of a list was decided
pub decided_step : (d : Ground) (all ts : List Tracked) (at : ℕ) (e : Tracked) (a b c : Told)
    → at < length all → get_or ts at e ≡ get_or all at e
    → HasTurned d (decide_each (rules_on d) (opens_in (take at all))) a b
    → HasTurned d (decide_each (rules_on d) (opens_of (get_or ts at e))) b c
    → HasTurned d (decide_each (rules_on d) (opens_in (take (at + 1) all))) a c
decided_step d all ts at e a b c low same h k =
    subst (λ (ks : List OpenCase). HasTurned d (decide_each (rules_on d) ks) a c)
    (ap (λ (x : Tracked). opens_in (take at all) ++ opens_of x) same
    ∙ sym (opens_more all at e low))
    (decided_more d (opens_in (take at all)) (opens_of (get_or ts at e)) a b c h k)

cases_append : (xs ys : List Tracked)
    → tracked_cases (xs ++ ys) ≡ tracked_cases xs ++ tracked_cases ys
cases_append [] ys = refl
cases_append (x ∷ xs) ys =
    ap (λ (cs : List Case). now_of x ++ cs) (cases_append xs ys)
    ∙ sym (append_assoc (now_of x) (tracked_cases xs) (tracked_cases ys))

-- and none is open up to there
pub none_step : (ts : List Tracked) (at : ℕ) (t : Tracked) → at < length ts
    → tracked_cases (take at ts) ≡ [] → now_of t ≡ []
    → tracked_cases (take (at + 1) (set ts at t)) ≡ []
none_step ts at t low h n =
    ap tracked_cases (take_more_set ts at t low)
    ∙ cases_append (take at ts) (t ∷ [])
    ∙ ap (λ (cs : List Case). cs ++ (now_of t ++ [])) h
    ∙ ap (λ (cs : List Case). cs ++ []) n

-- what is open, of the cases as they are now
pub opens_cases : (ts : List Tracked) → opens_in ts ≡ map open_of (tracked_cases ts)
opens_cases [] = refl
opens_cases (t ∷ ts) =
    ap (λ (ks : List OpenCase). opens_of t ++ ks) (opens_cases ts)
    ∙ sym (map-append open_of (now_of t) (tracked_cases ts))

-- an engine inside its limits
pub limited : (e : EngineSpec) → IsTrue (has_engine_limits e) → IsLimited e.n e.t
limited e h =
    let one = and_parts (nat_lt 0 e.n) _ h in
    let two = and_parts (nat_le e.n 1024) _ one.1 in
    let three = and_parts (nat_lt 0 e.t) _ two.1 in
    let some = ltb-true 0 e.n one.0 in
    let time = ltb-true 0 e.t three.0 in
    record {
      some = omega arith;
      few = leb-true e.n 1024 two.0;
      some_time = omega arith;
      time_fits = leb-true e.t (2 ^ 60) three.1;
    }

pub graph_limits : (g : GraphValue) → IsGraph g → IsTrue (list_all has_engine_limits g.engines)
graph_limits g h =
    let one = and_parts (list_all (λ node. has_limits node.kind) g.nodes) _ h.counted.counts in
    (and_parts (list_all has_engine_limits g.engines) _ one.1).0

-- a known configuration is there
get_there : (xs : List Configuration) (n : ℕ) → n < length xs → IsTrue (is_there (slice_get xs n))
get_there [] n h = absurd (omega arith)
get_there (x ∷ xs) zero h = refl
get_there (x ∷ xs) (suc n) h = get_there xs n (omega arith)

pub above_there : (d : Ground) (conf : ℕ) → is_above (rules_on d) (state_on d) conf ≡ true
    → IsTrue (is_there (found_at (rules_on d).configurations conf))
above_there d conf h =
    let known = known_of (rules_on d).configurations in
    known_there (rules_on d).configurations conf
    (ltb-true conf known (and_parts (nat_lt d.conf conf) (nat_lt conf known) h).1)

-- no configuration comes into force
pub reload_not : (d : Ground) (conf : ℕ) (w : Work)
    → is_above (rules_on d) (state_on d) conf ≡ false → IsWork d w
    → HasEnded d (reloaded_to d conf) None w w
reload_not d conf w off h = record {
  turn = ap (λ (b : Bool). if b
      then configure (rules_on d) conf (decide_all (rules_on d) (turn_of d w))
      else turn_of d w) (sym off);
  left = h;
}

-- one does
pub kept_fresh : (es : List EngineSpec)
    → map (λ (r : RateOf). r.kept) (fresh_rates es) ≡ map (λ (e : EngineSpec). []) es
kept_fresh [] = refl
kept_fresh (e ∷ es) = ap (λ (ks : List (List ℕ)). [] ∷ ks) (kept_fresh es)

pub reload_done : (d : Ground) (x : Reloaded) (old new : Work)
    → is_above (rules_on d) (state_on d) x.conf ≡ true → new.next ≡ old.next
    → x.engines.items ≡ fresh_rates (configuration_at (rules_on d) x.conf).graph.engines
    → HasTurned d (decide_each (rules_on d) (opens_in old.cases.items)) old.told new.told
    → tracked_cases new.cases.items ≡ []
    → AreStartsOf (configuration_at (rules_on d) x.conf).graph new.starts
    → HasEnded d (reloaded_to d x.conf) (Some x) old new
reload_done d x old new on next engines h none starts =
    let r = rules_on d in
    let t = turn_of d old in
    let es = (configuration_at r x.conf).graph.engines in
    let shut : opens_in new.cases.items ≡ [] =
    opens_cases new.cases.items ∙ ap (map open_of) none in
    let with_engines : List (List ℕ) → Turn = λ ks.
    let u = decide_all r t in
    record u { state = record u.state { conf = x.conf; engines = ks } } in
    record {
      turn =
          (λ i. with_reload (Some x) (turn_at d (next i) (shut i) new.told))
          ∙ ap (with_reload (Some x)) (h.turn old.next [])
          ∙ ap (λ (rs : List RateOf). with_engines (map (λ (q : RateOf). q.kept) rs)) engines
          ∙ ap with_engines (kept_fresh es)
          ∙ ap (λ (b : Bool). if b then configure r x.conf (decide_all r t) else t) (sym on);
      left = record { none = none; engines = engines; starts = starts };
    }

-- one part after others
pub gone_then : (d : Ground) (f h : Turn → Turn) (a b c : Work) → HasGone d f a b
    → HasGone d h b c → HasGone d (λ t. h (f t)) a c
gone_then d f h a b c g k = record { turn = k.turn ∙ ap h g.turn; work = k.work }

pub gone_ended : (d : Ground) (f h : Turn → Turn) (x : Option Reloaded) (a b c : Work)
    → HasGone d f a b → HasEnded d h x b c → HasEnded d (λ t. h (f t)) x a c
gone_ended d f h x a b c g k = record { turn = k.turn ∙ ap h g.turn; left = k.left }

-- the open cases have settled
pub settled_gone : (d : Ground) (a b : Work) → b.next ≡ a.next
    → HasSettled d (opens_in a.cases.items) (opens_in b.cases.items) a.told b.told
    → All (IsTrackedAt d.graph.now d.time) b.cases.items → AreStartsOf d.graph.now b.starts
    → HasGone d (settle_all (rules_on d)) a b
settled_gone d a b next h current starts = record {
  turn = ap (λ (n : ℕ). turn_at d n (opens_in b.cases.items) b.told) next ∙ h.turn a.next [];
  work = record { told = h.told; current = current; starts = starts };
}

pub gone_ascend : (d : Ground) (f : Turn → Turn) (a b : Work) → HasGone d f a b
    → IsTrue (ascends (solved_numbers (f (turn_of d a)).state.solved))
    → IsTrue (ascends (solved_numbers (solved_by d b.told)))
gone_ascend d f a b h k =
    subst (λ (t : Turn). IsTrue (ascends (solved_numbers t.state.solved))) (sym h.turn) k
