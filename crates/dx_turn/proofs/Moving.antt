-- Cases that were changed, moved or left, as a turn tracks them.
use Rattle.std.proofs.Common.{◌≡◌, ℕ, ◌⊎◌, inl, inr, Bool, true}
use Rattle.std.proofs.Common.{false, List, [], ◌∷◌, map, refl, sym, ap}
use Rattle.std.proofs.Common.{◌∙◌, arith, subst, Option, Some, None, if◌then◌else◌}
use Rattle.fm_core.specs.Meaning.{OpenCase}
use Rattle.ev_graph.specs.Lawful.{GraphValue}
use Rattle.dx_explain.specs.Cases.{waits}
use Rattle.dx_case.specs.declared.case.Case.{Case}
use Rattle.dx_case.specs.Cases.{open_of, time_of, waits_at, takes_at, IsCaseOf, IsBefore}
use Rattle.dx_case.specs.Cases.{StaysSame}
use Rattle.dx_turn.specs.declared.ground.Ground.{Ground}
use Rattle.dx_turn.specs.declared.tracked.Tracked.{Tracked}
use Rattle.dx_turn.specs.declared.told.Told.{Told}
use Rattle.dx_turn.specs.Grounds.{IsGround}
use Rattle.dx_turn.specs.Turning.{IsTold, left_of}
use Rattle.dx_turn.specs.Tracking.{first_case, now_of, opens_of, IsCurrent, IsTrackedAt}
use Rattle.dx_turn.specs.Settling.{IsWaiting, IsBeforeTurn, IsMoved, HasSettled}
use Rattle.dx_turn.proofs.Tracking.{opens_one, opens_none}
use Rattle.dx_turn.proofs.Settles.{settled_none, settled_left}

-- a case that has come to the time answers as it does then
pub current_at : (g : GraphValue) (time : ℕ) (c : Case) → IsCaseOf g c → time_of c ≡ Some time
    → IsCurrent g time c
current_at g time c h t = record {
  case = h;
  before = subst (λ (o : Option ℕ). IsBefore o time) (sym t) (omega arith);
  waits = ap (λ (o : Option ℕ). waits_at g o (open_of c)) t;
  takes = λ node. ap (λ (o : Option ℕ). takes_at g o node (open_of c)) t;
}

-- so does one of which no window has ended
pub current_stays : (g : GraphValue) (time : ℕ) (c : Case) → IsCaseOf g c
    → IsBefore (time_of c) time → StaysSame g (open_of c) (time_of c) time → IsCurrent g time c
current_stays g time c h b s =
    record { case = h; before = b; waits = sym s.waits; takes = λ node. sym (s.takes node) }

pub pending_is : (g : GraphValue) (time : ℕ) (c : Case) (b : Bool)
    → ((k : GraphValue) → IsCaseOf k c → b ≡ waits_at k (time_of c) (open_of c)) → IsCaseOf g c
    → time_of c ≡ Some time → b ≡ waits g time (open_of c)
pending_is g time c b says h t =
    says g h ∙ ap (λ (o : Option ℕ). waits_at g o (open_of c)) t

-- the case that was changed, and waits
pub changed_left : (d : Ground) (old : Tracked) (c : Case) → old.decided ≡ false
    → waits d.graph.now d.time (open_of c) ≡ true
    → opens_of (record old { changed = Some c }) ≡ left_of d (open_of c)
changed_left d old c undecided w =
    ap (λ (b : Bool). map open_of (if b then [] else c ∷ [])) undecided
    ∙ ap (λ (b : Bool). if b then open_of c ∷ [] else []) (sym w)

pub changed_current : (g : GraphValue) (time : ℕ) (old : Tracked) (c : Case)
    → old.decided ≡ false → IsCaseOf g c → time_of c ≡ Some time
    → IsTrackedAt g time (record old { changed = Some c })
changed_current g time old c undecided h t = record {
  each = λ k e.
      let one : c ∷ [] ≡ k ∷ [] =
      sym (ap (λ (b : Bool). if b then [] else c ∷ []) undecided) ∙ e in
      let same : c ≡ k = cc in
      subst (IsCurrent g time) same (current_at g time c h t);
}

-- a case that was decided
pub decided_left : (d : Ground) (old : Tracked) (c : Case)
    → waits d.graph.now d.time (open_of c) ≡ false
    → opens_of (record old { decided = true }) ≡ left_of d (open_of c)
decided_left d old c w = ap (λ (b : Bool). if b then open_of c ∷ [] else []) (sym w)

pub decided_current : (g : GraphValue) (time : ℕ) (old : Tracked)
    → IsTrackedAt g time (record old { decided = true })
decided_current g time old = record {
  each = λ k e. absurd (let never : ⊥ = cc in never);
}

-- a case that is ready, as it is now
pub ready_now : (g : GraphValue) (time : ℕ) (t : Tracked) (c : Case) → IsBeforeTurn g time t
    → t.kept ≡ Some c → now_of t ≡ c ∷ []
ready_now g time t c h is =
    ap (λ (b : Bool). if b then [] else first_case t.changed t.kept) h.undecided
    ∙ ap (λ (o : Option Case). first_case o t.kept) h.unchanged
    ∙ ap (λ (o : Option Case). first_case None o) is

pub ready_none : (g : GraphValue) (time : ℕ) (t : Tracked) → IsBeforeTurn g time t
    → t.kept ≡ None → now_of t ≡ []
ready_none g time t h is =
    ap (λ (b : Bool). if b then [] else first_case t.changed t.kept) h.undecided
    ∙ ap (λ (o : Option Case). first_case o t.kept) h.unchanged
    ∙ ap (λ (o : Option Case). first_case None o) is

-- a case of which no window has ended waits
pub stays_current : (g : GraphValue) (time : ℕ) (c k : Case) (b : Bool) → c ≡ k → IsWaiting g time k
    → b ≡ true
    → ((h : GraphValue) → IsCaseOf h c → IsBefore (time_of c) time → b ≡ true
    → StaysSame h (open_of c) (time_of c) time)
    → IsCurrent g time k × (waits g time (open_of k) ≡ true)
stays_current g time c k b same w on says =
    subst (λ (x : Case). ((h : GraphValue) → IsCaseOf h x → IsBefore (time_of x) time → b ≡ true
    → StaysSame h (open_of x) (time_of x) time)
    → IsCurrent g time k × (waits g time (open_of k) ≡ true)) (sym same)
    (λ says.
    let s = says g w.case w.before on in
    (current_stays g time k w.case w.before s, s.waits ∙ w.waits)) says

-- a case that needs not be moved
kept_by : (o : Option Case) → (o ≡ None) ⊎ ((c : Case) × (o ≡ Some c))
kept_by None = inl refl
kept_by (Some c) = inr (c, refl)

pub unmoved_settled : (d : Ground) (t : Tracked) (told : Told) → IsGround d → IsTold d told
    → IsBeforeTurn d.graph.now d.time t → IsMoved d.graph.now d.time t None
    → HasSettled d (opens_of t) (opens_of t) told told
unmoved_settled d t told ground h ready moved =
    elim (kept_by t.kept) [
      | inl none ↦
          subst (λ (ks : List OpenCase). HasSettled d ks ks told told)
          (sym (opens_none t (ready_none d.graph.now d.time t ready none)))
          (settled_none d told h)
      | inr one ↦
          subst (λ (ks : List OpenCase). HasSettled d ks ks told told)
          (sym (opens_one t one.0 (ready_now d.graph.now d.time t one.0 ready one.1)))
          (settled_left d (open_of one.0) told ground h (moved one.0 one.1).1)
    ]

pub unmoved_current : (g : GraphValue) (time : ℕ) (t : Tracked) → IsBeforeTurn g time t
    → IsMoved g time t None → IsTrackedAt g time t
unmoved_current g time t ready moved =
    elim (kept_by t.kept) [
      | inl none ↦ record {
        each = λ k e.
            let never : [] ≡ k ∷ [] = sym (ready_none g time t ready none) ∙ e in
            absurd (let no : ⊥ = cc in no);
      }
      | inr one ↦ record {
        each = λ k e.
            let same : one.0 ∷ [] ≡ k ∷ [] = sym (ready_now g time t one.0 ready one.1) ∙ e in
            let is : one.0 ≡ k = cc in
            subst (IsCurrent g time) is (moved one.0 one.1).0;
      }
    ]
