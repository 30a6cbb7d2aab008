-- The steps of a search.
use Rattle.std.proofs.Common.{◌≡◌, ◌+◌, ◌<◌, ◌≤◌, ◌++◌, ℕ, suc, true}
use Rattle.std.proofs.Common.{eqb, List, length, get_or, take, refl, sym, ap}
use Rattle.std.proofs.Common.{subst, ◌∙◌, arith, inl, inr}
use Rattle.std.proofs.Common.{append_assoc}
use Rattle.std.proofs.lemmas.List.{get_or_append_left}
use Rattle.std.proofs.lemmas.List.Folds.{list_any_more}
use Rattle.std.proofs.lemmas.Bool.{cases_lt, or_cases, or_left, or_right, eqb-true}
use Rattle.std.proofs.lemmas.Bool.{eq-eqb}
use Rattle.ev_incidence.specs.Sets.{is_member, IsSubset}
use Rattle.ev_incidence.specs.Table.{row_at}
use Rattle.ev_incidence.specs.Reached.{IsReach, Extends, TakesRow, TakesRows}
use Rattle.ev_incidence.specs.Reached.{IsSearching}
use Rattle.ev_incidence.proofs.Occurrences.{in_at, in_more, place_in}

-- lists that grow
pub extends_on : {xs ys zs : List ℕ} → Extends xs ys → Extends ys zs → Extends xs zs
extends_on {xs = xs} {ys = ys} {zs = zs} f g =
    record {
      more = f.more ++ g.more;
      is = g.is
          ∙ (ap (λ (us : List ℕ). us ++ g.more) f.is ∙ append_assoc xs f.more g.more);
    }

pub extends_in : {xs ys : List ℕ} → Extends xs ys → IsSubset (is_member xs) (is_member ys)
extends_in {xs = xs} {ys = ys} f e h = ap (λ (us : List ℕ). is_member us e) f.is
    ∙ in_more xs f.more e h

pub extends_at : {xs ys : List ℕ} → Extends xs ys → (i : ℕ) → i < length xs
    → get_or ys i 0 ≡ get_or xs i 0
extends_at {xs = xs} {ys = ys} f i l = ap (λ (us : List ℕ). get_or us i 0) f.is
    ∙ get_or_append_left xs f.more 0 i l

pub rows_more : (rows : List (List ℕ)) (own a b c d e f : List ℕ) (i : ℕ) → i < length own
    → TakesRows rows (take i own) a b c d
    → TakesRow rows (get_or own i 0) c d e f → is_member f (get_or own i 0) ≡ true
    → TakesRows rows (take (i + 1) own) a b e f
rows_more rows own a b c d e f i l g h there =
    let x = get_or own i 0 in
    let split = λ (j : ℕ). list_any_more (λ y. eqb y j) own i 0 l in
    record {
      extends = extends_on g.extends h.extends;
      kept = λ j p. h.kept j (g.kept j p);
      into = λ p. h.into (g.into p);
      all = λ j p. elim (or_cases (is_member (take i own) j) (eqb x j) (sym (split j) ∙ p)) [
        | inl was ↦ h.kept j (g.all j was)
        | inr same ↦ let P : ℕ → Type 0 = λ z. is_member f z ≡ true in
            subst P (eqb-true x j same) there
      ];
      only = λ y p. elim (h.only y p) [
        | inl mid ↦ elim (g.only y mid) [
          | inl old ↦ inl old
          | inr early ↦ inr (
            early.0,
            split early.0
                ∙ or_left (is_member (take i own) early.0) (eqb x early.0) early.1,
            early.2,
          )
        ]
        | inr last ↦ inr (
          x,
          split x ∙ or_right (is_member (take i own) x) (eqb x x) (eq-eqb x x refl),
          last,
        )
      ];
      no_other = λ j p. elim (h.no_other j p) [
        | inl mid ↦ elim (g.no_other j mid) [
          | inl old ↦ inl old
          | inr early ↦ inr (split j ∙ or_left (is_member (take i own) j) (eqb x j) early)
        ]
        | inr same ↦ inr (split j ∙ or_right (is_member (take i own) j) (eqb x j)
            (eq-eqb x j same))
      ];
    }

-- the rows of one more node
pub search_more : (index rows : List (List ℕ)) (starts : List ℕ) (at : ℕ) (a b c d : List ℕ)
    → at < length a → IsSearching index rows starts at a b
    → TakesRows rows (row_at index (get_or a at 0)) a b c d
    → IsSearching index rows starts (at + 1) c d
search_more index rows starts at a b c d l h t = record {
  starts_in = λ e p. extends_in t.extends e (h.starts_in e p);
  out = record {
    each = λ i j low within p. elim (cases_lt i at) [
      | inl lt ↦
          let same : get_or c i 0 ≡ get_or a i 0 = extends_at t.extends i (omega (arith, lt, l)) in
          t.kept j (h.out.each i j lt (omega (arith, lt, l))
          (ap (λ (x : ℕ). is_member (row_at index x) j) (sym same) ∙ p))
      | inr ge ↦
          let i_is : i ≡ at = omega (arith, low, ge) in
          let same : get_or c i 0 ≡ get_or a at 0 = ap (λ (k : ℕ). get_or c k 0) i_is
          ∙ extends_at t.extends at l in
          t.all j (ap (λ (x : ℕ). is_member (row_at index x) j) (sym same) ∙ p)
    ];
  };
  into = t.into h.into;
  reached = record {
    each = λ y p. elim (t.only y p) [
      | inl was ↦ h.reached.each y was
      | inr fresh ↦
          let x = get_or a at 0 in
          let r = h.reached.each x (in_at a at l) in
          record {
            start = r.start;
            in_starts = r.in_starts;
            steps = suc r.steps;
            trail =
                (x, r.trail, record { place = fresh.0; out = fresh.1; into = fresh.2 });
          }
    ];
  };
  no_other = record {
    each = λ j p. elim (t.no_other j p) [
      | inl was ↦ let of = h.no_other.each j was in
          (of.0, extends_in t.extends of.0 of.1, of.2)
      | inr fresh ↦ (get_or a at 0, extends_in t.extends (get_or a at 0) (in_at a at l), fresh)
    ];
  };
}

pub search_end : (index rows : List (List ℕ)) (starts : List ℕ) (at : ℕ) (nodes places : List ℕ)
    → length nodes ≤ at → IsSearching index rows starts at nodes places
    → IsReach index rows starts nodes places
search_end index rows starts at nodes places past h = record {
  starts_in = h.starts_in;
  out = λ e j p q. let w = place_in e nodes p in
      h.out.each w.0 j (omega (arith, w.1, past)) w.1
      (ap (λ (x : ℕ). is_member (row_at index x) j) w.2
      ∙ q);
  into = h.into.each;
  reached = h.reached.each;
  no_other = h.no_other;
}
