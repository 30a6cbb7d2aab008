-- The walk along a shortest cycle.
use Rattle.std.proofs.Common.{◌≡◌, ℕ, suc, ◌<◌, ◌≤◌, ◌+◌, List, [], ◌∷◌, ◌++◌, Option, Some, None}
use Rattle.std.proofs.Common.{length, get_or, inl, inr, subst, sym, ◌∙◌, refl, ap, arith}
use Rattle.std.proofs.Common.{length-append}
use Rattle.std.proofs.Math.ListN.{get_or-append}
use Rattle.std.proofs.Math.Seq.{get_or-append_seam}
use Rattle.std.proofs.lemmas.Bool.{cases_lt}
use Rattle.ev_ways.specs.Lists.{IsIn}
use Rattle.ev_ways.specs.Ways.{Leads, Way, Reaches}
use Rattle.ev_ways.specs.Search.{far, AreDistances}
use Rattle.ev_ways.specs.Best.{IsAtMost, IsBest, IsBestOf, AreTowards}
use Rattle.ev_ways.specs.Walked.{IsWalked}
use Rattle.ev_ways.specs.Cycle.{IsCycleFrom, IsFirstCycle}
use Rattle.ev_ways.specs.declared.step.Step.{Step}
use Rattle.ev_ways.proofs.Walks.{way_back}

pub towards_is : (causes effects : List (List ℕ)) (goal : ℕ) (dist : List (Option ℕ))
    → AreDistances effects causes (goal ∷ []) dist → AreTowards causes effects goal dist
towards_is causes effects goal dist h = record {
  shown = λ x d e. shown x d (h.shown x d e);
  least = λ x n w. let near =
      h.least x n (
        goal,
        record { place = 0; within = omega arith; stands = refl },
        way_back causes effects n x goal w,
      ) in
      (near.steps, near.stands, near.within);
} where
  only : (s : ℕ) → IsIn s (goal ∷ []) → goal ≡ s
  only s w = let at_front : w.place ≡ 0 = omega (arith, w.within) in
      ap (λ k. get_or (goal ∷ []) k 0) (sym at_front) ∙ w.stands

  shown : (x d : ℕ) → (s : ℕ) × IsIn s (goal ∷ []) × Way effects causes d s x
      → Way causes effects d x goal
  shown x d (s, start, w) =
      way_back effects causes d goal x (let P : ℕ → Type 0 = λ z. Way effects causes d z x in
      subst P (sym (only s start)) w)

far_one : (dist : List (Option ℕ)) (x d e : ℕ) → far dist x ≡ Some d → far dist x ≡ Some e → d ≡ e
far_one dist x d e a b = cc

pub at_most_le : (s : Step) (e z : ℕ) → IsAtMost s e z → s.distance ≤ e
at_most_le s e z (inl a) = omega (arith, a)
at_most_le s e z (inr a) = omega (arith, a.0)

pub at_most_node : (s : Step) (e z : ℕ) → e ≤ s.distance → IsAtMost s e z → s.node ≤ z
at_most_node s e z le (inl a) = absurd (omega (arith, a, le))
at_most_node s e z le (inr a) = a.1

-- from a node that is away from the goal a best step leads one step closer
pub closer : (causes effects : List (List ℕ)) (goal : ℕ) (dist : List (Option ℕ)) (x d : ℕ)
    → AreTowards causes effects goal dist → far dist x ≡ Some (suc d)
    → (best : Option Step) → IsBestOf (Leads causes effects x) dist best → (s : Step)
    × (best ≡ Some s) × (s.distance ≡ d)
closer causes effects goal dist x d t e best h = let w = t.shown x (suc d) e in
    go w.0 w.1 w.2 best h where
      go : (z : ℕ) → Leads causes effects x z → Way causes effects d z goal → (b : Option Step)
          → IsBestOf (Leads causes effects x) dist b → (s : Step) × (b ≡ Some s) × (s.distance ≡ d)
      go z l w None h = let n = t.least z d w in absurd (h z n.0 l n.1)
      go z l w (Some s) h =
          let n = t.least z d w in
          let back = t.least x (suc s.distance) (s.node, h.one, t.shown s.node s.distance h.stands)
          in
          let same : suc d ≡ back.0 = far_one dist x (suc d) back.0 e back.1 in
          (s, refl, omega (arith, at_most_le s n.0 z (h.least z n.0 l n.1), n.2, back.2, same))

pub walk_begins : (causes effects : List (List ℕ)) (goal : ℕ) (dist : List (Option ℕ))
    (first : Step) → IsBest (Leads causes effects goal) dist first
    → IsWalked causes effects goal dist first (goal ∷ []) first
walk_begins causes effects goal dist first best = record {
  begins = refl;
  some = omega arith;
  lengths = omega arith;
  next = λ k lt. absurd (omega (arith, lt));
  earliest = λ k n y lt e l w. absurd (omega (arith, lt));
  last = λ k e. let zero_is : k ≡ 0 = omega (arith, e) in
      let P : ℕ → Type 0 = λ z. IsBest (Leads causes effects (get_or (goal ∷ []) z 0)) dist first in
      subst P (sym zero_is) best;
}

pub walk_more : (causes effects : List (List ℕ)) (goal : ℕ) (dist : List (Option ℕ)) (first : Step)
    (members : List ℕ) (step next : Step)
    → AreTowards causes effects goal dist → IsWalked causes effects goal dist first members step
    → IsBest (Leads causes effects step.node) dist next → next.distance + 1 ≡ step.distance
    → IsWalked causes effects goal dist first (members ++ step.node ∷ []) next
walk_more causes effects goal dist first members step next t h best fewer = record {
  begins = early 0 h.some ∙ h.begins;
  some = omega (arith, long);
  lengths = omega (arith, long, h.lengths, fewer);
  next = λ k lt. elim (cases_lt (k + 1) (length members)) [
    | inl low ↦ let P : ℕ → Type 0 = λ z. Leads causes effects (get_or longer k 0) z in
        let Q : ℕ → Type 0 = λ z. Leads causes effects z (get_or members (k + 1) 0) in
        subst P (sym (early (k + 1) low))
        (subst Q (sym (early k (omega (arith, low)))) (h.next k low))
    | inr ge ↦ let e : k + 1 ≡ length members = omega (arith, lt, ge, long) in
        let P : ℕ → Type 0 = λ z. Leads causes effects (get_or longer k 0) z in
        let Q : ℕ → Type 0 = λ z. Leads causes effects z step.node in
        subst P (sym (late (k + 1) e)) (subst Q (sym (early k (omega (arith, e)))) (h.last k e).one)
  ];
  earliest = λ k n y lt e l w.
      let P : ℕ → Type 0 = λ z. Leads causes effects z y in
      elim (cases_lt (k + 1) (length members)) [
        | inl low ↦ let R : ℕ → Type 0 = λ z. z ≤ y in
            subst R (sym (early (k + 1) low))
            (h.earliest k n y low e (subst P (early k (omega (arith, low))) l) w)
        | inr ge ↦ let here : k + 1 ≡ length members = omega (arith, lt, ge, long) in
            let near = t.least y (suc n) w in
            let R : ℕ → Type 0 = λ z. z ≤ y in
            subst R (sym (late (k + 1) here))
            (at_most_node step near.0 y (omega (arith, near.2, h.lengths, e, here))
            ((h.last k here).least y near.0 (subst P (early k (omega (arith, here))) l) near.1))
      ];
  last = λ k e. let here : k ≡ length members = omega (arith, e, long) in
      let P : ℕ → Type 0 = λ z. IsBest (Leads causes effects z) dist next in
      subst P (sym (late k here)) best;
} where
  longer : List ℕ
  longer = members ++ step.node ∷ []

  long : length (members ++ step.node ∷ []) ≡ length members + 1
  long = length-append members (step.node ∷ [])

  early : (k : ℕ) → k < length members → get_or (members ++ step.node ∷ []) k 0 ≡ get_or members k 0
  early k lt = get_or-append members (step.node ∷ []) 0 k lt

  late : (k : ℕ) → k ≡ length members → get_or (members ++ step.node ∷ []) k 0 ≡ step.node
  late k e = ap (λ j. get_or (members ++ step.node ∷ []) j 0) e
      ∙ get_or-append_seam members step.node [] 0

pub walk_ends : (causes effects : List (List ℕ)) (goal : ℕ) (dist : List (Option ℕ)) (first : Step)
    (members : List ℕ) (step : Step)
    → AreTowards causes effects goal dist → IsBest (Leads causes effects goal) dist first
    → IsWalked causes effects goal dist first members step → step.distance ≡ 0
    → IsCycleFrom causes effects goal members
walk_ends causes effects goal dist first members step t best h end = record {
  ring = record {
    some = h.some;
    next = h.next;
    back = λ k e. let b = h.last k e in
        let home : Way causes effects 0 step.node goal =
        (let P : ℕ → Type 0 = λ n. Way causes effects n step.node goal in
        subst P end (t.shown step.node step.distance b.stands)) in
        let P : ℕ → Type 0 = λ z. Leads causes effects (get_or members k 0) z in
        subst P (home ∙ sym h.begins) b.one;
  };
  begins = h.begins;
  shortest = λ n w. short n w.0 w.1 w.2;
  earliest = λ k n y e l w. h.earliest k n y (omega (arith, e)) (omega (arith, e, h.lengths, end)) l
      w;
} where
  short : (n z : ℕ) → Leads causes effects goal z → Way causes effects n z goal
      → length members ≤ suc n
  short n z l w = let near = t.least z n w in
      omega (
        arith,
        h.lengths,
        end,
        near.2,
        at_most_le first near.0 z (best.least z near.0 l near.1),
      )

pub no_cycle : (causes effects : List (List ℕ)) (goal : ℕ) (dist : List (Option ℕ))
    → AreTowards causes effects goal dist
    → IsBestOf (Leads causes effects goal) dist None → Reaches causes effects goal goal → ⊥
no_cycle causes effects goal dist t none (n, (z, l, w)) = let near = t.least z n w in
    none z near.0 l near.1

pub first_is : (causes effects : List (List ℕ)) (x : ℕ) (members : List ℕ)
    → ((y : ℕ) → y < x → Reaches causes effects y y → ⊥) → IsCycleFrom causes effects x members
    → IsFirstCycle causes effects members
first_is causes effects x members none h = record {
  ring = h.ring;
  first = λ y lt. none y (let P : ℕ → Type 0 = λ z. y < z in subst P h.begins lt);
  shortest = λ n w. h.shortest n (back (suc n) (get_or members 0 0) h.begins w);
  earliest = λ k n y e l w.
      h.earliest k n y e l (let P : ℕ → Type 0 = λ z. Way causes effects (suc n) y z in
      subst P h.begins w);
} where
  back : (n y : ℕ) → y ≡ x → Way causes effects n y y → Way causes effects n x x
  back n y e w = let P : ℕ → Type 0 = λ z. Way causes effects n z z in subst P e w
