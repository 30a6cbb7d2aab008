-- Where fewer links are cut, more is produced and more is shown.
use Rattle.std.proofs.Common.{◌≡◌, ◌≤◌, not, ℕ, Bool, true, cond, leb, List, []}
use Rattle.std.proofs.Common.{◌∷◌, ap, arith, inl, inr}
use Rattle.std.specs.List.{count_by, filter}
use Rattle.std.proofs.lemmas.List.Sums.{sum_by-cons}
use Rattle.std.proofs.lemmas.Bool.{cases_Bool, and_parts, and_from, or_cases, or_left, or_right}
use Rattle.std.proofs.lemmas.Bool.{both_ways, le-leb, leb-true, not-true, not_from_false}
use Rattle.ev_incidence.specs.Sets.{NodeSet, is_member, IsSubset}
use Rattle.ev_incidence.specs.Wiring.{Wiring}
use Rattle.ev_graph.specs.Rules.{IsProduced, IsShown}
use Rattle.ev_graph.specs.Cutting.{without}
use Rattle.ev_incidence.proofs.Occurrences.{filter_yes, filter_no, filter_in, in_filter}
use Rattle.dx_sets.specs.Fit.{IsFit}
use Rattle.dx_sets.specs.Engine.{CutsOf, CutsWithin}

-- a count over fewer numbers
pub filter_within : (X p q : NodeSet) (xs : List ℕ) → IsSubset p q
    → count_by X (filter p xs) ≤ count_by X (filter q xs)
filter_within X p q [] h = omega arith
filter_within X p q (x ∷ xs) h =
    let more = filter_within X p q xs h in
    let a = sum_by-cons (λ y. cond (X y) 1 0) x (filter p xs) in
    let b = sum_by-cons (λ y. cond (X y) 1 0) x (filter q xs) in
    elim (cases_Bool (p x)) [
      | inl here ↦ omega (
        arith,
        more,
        a,
        b,
        ap (λ (ys : List ℕ). count_by X ys) (filter_yes p x xs here),
        ap (λ (ys : List ℕ). count_by X ys) (filter_yes q x xs (h x here)),
      )
      | inr away ↦ elim (cases_Bool (q x)) [
        | inl there ↦ omega (
          arith,
          more,
          b,
          ap (λ (ys : List ℕ). count_by X ys) (filter_no p x xs away),
          ap (λ (ys : List ℕ). count_by X ys) (filter_yes q x xs there),
        )
        | inr none ↦ omega (
          arith,
          more,
          ap (λ (ys : List ℕ). count_by X ys) (filter_no p x xs away),
          ap (λ (ys : List ℕ). count_by X ys) (filter_no q x xs none),
        )
      ]
    ]

not_within : (a b : Bool) → (a ≡ true → b ≡ true) → not b ≡ true → not a ≡ true
not_within a b h n = elim (cases_Bool a) [
  | inl here ↦ absurd (both_ways b (not-true b n) (h here))
  | inr away ↦ not_from_false a away
]

module _ (w : Wiring) (cut fewer : CutsOf) (X : NodeSet) (within : CutsWithin fewer cut) where
  kept : (j : ℕ) → IsSubset (λ e. not (cut j e)) (λ e. not (fewer j e))
  kept j e h = not_within (fewer j e) (cut j e) (within j e) h

  pub produced_fewer : (e : ℕ) → IsProduced (without w cut) X e → IsProduced (without w fewer) X e
  produced_fewer e c =
      let j = c.place in
      let p = and_parts (is_member (filter (λ x. not (cut j x)) (w.effects j)) e)
      (leb (w.k j) (count_by X (w.causes j))) c.enough in
      let q = filter_in (λ x. not (cut j x)) e (w.effects j) p.0 in
      record {
        place = j;
        enough = and_from (is_member (filter (λ x. not (fewer j x)) (w.effects j)) e)
            (leb (w.k j) (count_by X (w.causes j)))
            (in_filter (λ x. not (fewer j x)) e (w.effects j) (kept j e q.0) q.1) p.1;
      }

  pub shown_fewer : (e : ℕ) → IsShown (without w cut) X e → IsShown (without w fewer) X e
  shown_fewer e s = record {
    each = λ j.
        let some = filter (λ x. not (cut j x)) (w.effects j) in
        let all = filter (λ x. not (fewer j x)) (w.effects j) in
        elim (or_cases (not (is_member (w.causes j) e)) (leb (w.n j) (count_by X some))
        (s.each j)) [
          | inl none ↦ or_left (not (is_member (w.causes j) e)) (leb (w.n j) (count_by X all)) none
          | inr enough ↦ or_right (not (is_member (w.causes j) e))
              (leb (w.n j) (count_by X all))
              (le-leb (w.n j) (count_by X all) (omega (
                arith,
                leb-true (w.n j) (count_by X some) enough,
                filter_within X (λ x. not (cut j x)) (λ x. not (fewer j x)) (w.effects j) (kept j),
              )))
        ];
  }

  pub fit_fewer : (root : ℕ) → IsFit (without w cut) root X → IsFit (without w fewer) root X
  fit_fewer root f = record {
    caused = λ e here ne. produced_fewer e (f.caused e here ne);
    shown = λ e here. shown_fewer e (f.shown e here);
  }
