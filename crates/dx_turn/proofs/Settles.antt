-- Settling cases one after the other.
use Rattle.std.proofs.Common.{◌≡◌, ℕ, Bool, true, false, List, [], ◌∷◌, ◌++◌, refl, sym, ap, ◌∙◌}
use Rattle.std.proofs.Common.{subst, append_assoc, append-nil, if◌then◌else◌}
use Rattle.fm_core.specs.Meaning.{OpenCase}
use Rattle.ev_graph.specs.Lawful.{GraphValue}
use Rattle.dx_explain.specs.Cases.{waits}
use Rattle.dx_state.specs.Configured.{Rules}
use Rattle.dx_step.specs.Turns.{Turn, decide, settle, settle_each}
use Rattle.dx_turn.specs.declared.ground.Ground.{Ground}
use Rattle.dx_turn.specs.declared.told.Told.{Told}
use Rattle.dx_turn.specs.Grounds.{IsGround, rules_on}
use Rattle.dx_turn.specs.Turning.{turn_at, IsTold, HasTurned, decided_or_left, left_of}
use Rattle.dx_turn.specs.Settling.{HasSettled}

pub settle_append : (r : Rules) (notes : Bool) (xs ys : List OpenCase) (t : Turn)
    → settle_each r notes (xs ++ ys) t ≡ settle_each r notes ys (settle_each r notes xs t)
settle_append r notes [] ys t = refl
settle_append r notes (x ∷ xs) ys t = settle_append r notes xs ys (settle r notes x t)

-- settling a case over the graph in force
pub settle_is : (d : Ground) (notes : Bool) (c : OpenCase) (next : ℕ) (cs : List OpenCase)
    (told : Told) → IsGround d
    → settle (rules_on d) notes c (turn_at d next cs told)
    ≡ (if waits d.graph.now d.time c then turn_at d next (cs ++ c ∷ []) told
    else decide (rules_on d) notes c (turn_at d next cs told))
unfolding settle
settle_is d notes c next cs told ground =
    ap (λ (g : GraphValue). if waits g d.time c then turn_at d next (cs ++ c ∷ []) told
    else decide (rules_on d) notes c (turn_at d next cs told)) ground.graph

-- a case was decided, or is left among others
pub decided_among : (d : Ground) (notes : Bool) (c : OpenCase) (xs ys : List OpenCase) (next : ℕ)
    (old new : Told) → HasTurned d (decided_or_left d notes c) old new
    → turn_at d next (xs ++ (left_of d c ++ ys)) new
    ≡ (if waits d.graph.now d.time c then turn_at d next (xs ++ c ∷ ys) old
    else decide (rules_on d) notes c (turn_at d next (xs ++ ys) old))
decided_among d notes c xs ys next old new h =
    elim (waits d.graph.now d.time c) as (λ (b : Bool).
    ((n : ℕ) (ks : List OpenCase) → turn_at d n ks new
    ≡ (if b then turn_at d n ks old else decide (rules_on d) notes c (turn_at d n ks old)))
    → turn_at d next (xs ++ ((if b then c ∷ [] else []) ++ ys)) new
    ≡ (if b then turn_at d next (xs ++ c ∷ ys) old
    else decide (rules_on d) notes c (turn_at d next (xs ++ ys) old))) [
      | true ↦ λ k. k next (xs ++ c ∷ ys)
      | false ↦ λ k. k next (xs ++ ys)
    ] h.turn

pub settled_any : (d : Ground) (notes : Bool) (c : OpenCase) (xs : List OpenCase) (next : ℕ)
    (old new : Told) → IsGround d → HasTurned d (decided_or_left d notes c) old new
    → turn_at d next (xs ++ left_of d c) new
    ≡ settle (rules_on d) notes c (turn_at d next xs old)
settled_any d notes c xs next old new ground h =
    ap (λ ks. turn_at d next (xs ++ ks) new) (sym (append-nil (left_of d c)))
    ∙ decided_among d notes c xs [] next old new h
    ∙ ap (λ ks. if waits d.graph.now d.time c then turn_at d next (xs ++ c ∷ []) old
    else decide (rules_on d) notes c (turn_at d next ks old)) (append-nil xs)
    ∙ sym (settle_is d notes c next xs old ground)

pub settled_one : (d : Ground) (c : OpenCase) (old new : Told) → IsGround d
    → HasTurned d (decided_or_left d true c) old new
    → HasSettled d (c ∷ []) (left_of d c) old new
settled_one d c old new ground h = record {
  turn = λ next cs. settled_any d true c cs next old new ground h;
  told = h.told;
}

-- no case
pub settled_none : (d : Ground) (t : Told) → IsTold d t → HasSettled d [] [] t t
settled_none d t h =
    record { turn = λ next cs. ap (λ ks. turn_at d next ks t) (append-nil cs); told = h }

-- a case that waits
pub settled_left : (d : Ground) (c : OpenCase) (t : Told) → IsGround d → IsTold d t
    → waits d.graph.now d.time c ≡ true → HasSettled d (c ∷ []) (c ∷ []) t t
settled_left d c t ground h w = record {
  turn = λ next cs.
      ap (λ (b : Bool). if b then turn_at d next (cs ++ c ∷ []) t
      else decide (rules_on d) true c (turn_at d next cs t)) (sym w)
      ∙ sym (settle_is d true c next cs t ground);
  told = h;
}

-- some more cases
pub settled_more : (d : Ground) (xs ys xs' ys' : List OpenCase) (a b c : Told)
    → HasSettled d xs xs' a b → HasSettled d ys ys' b c → HasSettled d (xs ++ ys) (xs' ++ ys') a c
settled_more d xs ys xs' ys' a b c h k = record {
  turn = λ next cs.
      ap (λ ks. turn_at d next ks c) (sym (append_assoc cs xs' ys'))
      ∙ k.turn next (cs ++ xs')
      ∙ ap (settle_each (rules_on d) true ys) (h.turn next cs)
      ∙ sym (settle_append (rules_on d) true xs ys (turn_at d next cs a));
  told = k.told;
}

-- a case that was moved to the time, and decided or left
pub settled_moved : (d : Ground) (c : OpenCase) (was left : List OpenCase) (old new : Told)
    → IsGround d → was ≡ c ∷ [] → left ≡ left_of d c
    → HasTurned d (decided_or_left d true c) old new → HasSettled d was left old new
settled_moved d c was left old new ground one rest h =
    subst (λ (ks : List OpenCase). HasSettled d ks left old new) (sym one)
    (subst (λ (ks : List OpenCase). HasSettled d (c ∷ []) ks old new) (sym rest)
    (settled_one d c old new ground h))
