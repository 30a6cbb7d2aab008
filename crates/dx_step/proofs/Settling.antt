-- What is left where each of some cases is settled, or decided.
use Rattle.std.proofs.Common.{◌≡◌, Bool, true, false, IsTrue, List, [], ◌∷◌, ◌++◌, refl, sym, ap}
use Rattle.std.proofs.Common.{◌∙◌, subst, append_assoc, if◌then◌else◌}
use Rattle.fm_core.specs.Meaning.{OpenCase}
use Rattle.dx_explain.specs.Cases.{waits}
use Rattle.dx_state.specs.Configured.{Rules}
use Rattle.dx_step.specs.Turns.{Turn, graph_of, turn_cases, keep, decide, settle}
use Rattle.dx_step.specs.Turns.{settle_each, decide_each}
use Rattle.dx_step.proofs.Parts.{all_joined, all_one}
use Rattle.dx_step.proofs.Sound.{IsTurn, IsDecided, AllWait, IsSettled, turn_with, turn_less}
use Rattle.dx_step.proofs.Sound.{free_of, wait_alike}
use Rattle.dx_step.proofs.Deciding.{decided}

-- one step of it, before some cases that are left
record IsStep (r : Rules) (left : List OpenCase) (t u : Turn) : Type 0 where
  turn : IsTurn r (turn_cases u ++ left) u
  waiting : AllWait r u
  time : u.state.time ≡ t.state.time
  conf : u.state.conf ≡ t.state.conf

append_nil : (cs : List OpenCase) → cs ++ [] ≡ cs
append_nil [] = refl
append_nil (c ∷ cs) = ap (λ ds. c ∷ ds) (append_nil cs)

kept_case : (r : Rules) (c : OpenCase) (left : List OpenCase) (t : Turn)
    → IsTurn r (turn_cases t ++ c ∷ left) t → AllWait r t
    → IsTrue (waits (graph_of r t.state) t.state.time c) → IsStep r left t (keep c t)
kept_case r c left t h all waiting = record {
  turn =
      turn_with r ((turn_cases t ++ c ∷ []) ++ left) (turn_cases t ++ c ∷ []) t
      (subst (λ (cs : List OpenCase). IsTurn r cs t)
      (sym (append_assoc (turn_cases t) (c ∷ []) left)) h);
  waiting =
      all_joined (waits (graph_of r t.state) t.state.time) (turn_cases t) (c ∷ []) all
      (all_one (waits (graph_of r t.state) t.state.time) c waiting);
  time = refl;
  conf = refl;
}

decided_case : (r : Rules) (notes : Bool) (c : OpenCase) (left : List OpenCase) (t : Turn)
    → IsTurn r (turn_cases t ++ c ∷ left) t → AllWait r t
    → IsStep r left t (decide r notes c t)
decided_case r notes c left t h all =
    let less = turn_less r (turn_cases t) left c t h in
    let free = free_of r (turn_cases t) left c t.state h.sound in
    let done = decided r notes (turn_cases t ++ left) t c less free in
    record {
      turn = subst (λ (cs : List OpenCase). IsTurn r (cs ++ left) (decide r notes c t))
          (sym done.cases) done.turn;
      waiting = wait_alike r t (decide r notes c t) done.cases done.time done.conf all;
      time = done.time;
      conf = done.conf;
    }

settled_case : (r : Rules) (notes : Bool) (c : OpenCase) (left : List OpenCase) (t : Turn)
    → IsTurn r (turn_cases t ++ c ∷ left) t → AllWait r t
    → IsStep r left t (settle r notes c t)
unfolding settle
settled_case r notes c left t h all =
    elim (waits (graph_of r t.state) t.state.time c) as (λ (b : Bool).
    waits (graph_of r t.state) t.state.time c ≡ b
    → IsStep r left t (if b then keep c t else decide r notes c t)) [
      | true ↦ λ is. kept_case r c left t h all is
      | false ↦ λ is. decided_case r notes c left t h all
    ] refl

-- each of some cases is settled
pub settled_each : (r : Rules) (notes : Bool) (left : List OpenCase) (t : Turn)
    → IsTurn r (turn_cases t ++ left) t → AllWait r t
    → IsSettled r t (settle_each r notes left t)
settled_each r notes [] t h all = record {
  turn = subst (λ (cs : List OpenCase). IsTurn r cs t) (append_nil (turn_cases t)) h;
  waiting = all;
  time = refl;
  conf = refl;
}
settled_each r notes (c ∷ cs) t h all =
    let one = settled_case r notes c cs t h all in
    let rest = settled_each r notes cs (settle r notes c t) one.turn one.waiting in
    record {
      turn = rest.turn;
      waiting = rest.waiting;
      time = rest.time ∙ one.time;
      conf = rest.conf ∙ one.conf;
    }

-- each of some cases is decided
pub decided_each : (r : Rules) (left : List OpenCase) (t : Turn) → IsTurn r left t
    → IsDecided r [] t (decide_each r left t)
decided_each r [] t h = record { turn = h; cases = refl; time = refl; conf = refl }
decided_each r (c ∷ cs) t h =
    let less = turn_less r [] cs c t h in
    let free = free_of r [] cs c t.state h.sound in
    let one = decided r false cs t c less free in
    let rest = decided_each r cs (decide r false c t) one.turn in
    record {
      turn = rest.turn;
      cases = rest.cases ∙ one.cases;
      time = rest.time ∙ one.time;
      conf = rest.conf ∙ one.conf;
    }
