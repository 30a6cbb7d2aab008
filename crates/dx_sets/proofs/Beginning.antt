-- What leaves at the beginning: what nothing gives, and the causes of what shows too little.
use Rattle.std.proofs.Common.{◌≡◌, ◌≢◌, ◌+◌, ◌<◌, ◌≤◌, ◌&&◌, not, ℕ, Bool, true}
use Rattle.std.proofs.Common.{false, eqb, ltb, List, [], length, get_or, refl, sym, ap}
use Rattle.std.proofs.Common.{subst, ◌∙◌, arith, inl, inr}
use Rattle.std.proofs.lemmas.Bool.{cases_lt, cases_eq, cases_Bool, and_parts, and_from, and_right}
use Rattle.std.proofs.lemmas.Bool.{eqb-true, eq-eqb, ne_eqb, ltb-true, lt-ltb, both_ways, not-true}
use Rattle.std.proofs.lemmas.Bool.{not_from_false, not_from_true}
use Rattle.ev_incidence.specs.Sets.{NodeSet, is_member, has_mark}
use Rattle.ev_incidence.specs.Table.{row_at, IncidenceValue, IsIncidence}
use Rattle.ev_incidence.proofs.Occurrences.{row_in_range}
use Rattle.dx_sets.specs.Sets.{SetsValue, removed, Moves}
use Rattle.dx_sets.specs.Engine.{CutsOf, uncut, wiring_cut, supports, AreExact, AreGiven}
use Rattle.dx_sets.specs.Engine.{AreMet, AreMetBelow, KeepsFit, IsOnWay, CausesLeave, HaveLeftBelow}
use Rattle.dx_sets.specs.Engine.{is_ungiven}
use Rattle.dx_sets.proofs.Leaving.{moves_on, moves_self, removed_moves, removed_gone, removed_other}
use Rattle.dx_sets.proofs.Leaving.{removed_causes, removed_effects, removed_support, marked_below}
use Rattle.dx_sets.proofs.Losing.{unfit_unsupported, unfit_unmet, keeps_self, keeps_on}

-- nodes that leave one after the other
below_other : (e n : ℕ) → e ≢ n → ltb e (n + 1) ≡ ltb e n
below_other e n ne = elim (cases_lt e n) [
  | inl l ↦ lt-ltb e (n + 1) (omega (arith, l)) ∙ sym (lt-ltb e n l)
  | inr past ↦ elim (cases_Bool (ltb e (n + 1))) [
    | inl holds ↦ absurd (omega (arith, ltb-true e (n + 1) holds, past, ne))
    | inr none ↦ elim (cases_Bool (ltb e n)) [
      | inl holds ↦ absurd (omega (arith, ltb-true e n holds, past))
      | inr away ↦ none ∙ sym away
    ]
  ]
]

same_test : (p : NodeSet) (e n : ℕ) (m : Bool) → e ≢ n
    → (m && not (ltb e n && p e)) ≡ (m && not (ltb e (n + 1) && p e))
same_test p e n m ne = ap (λ (b : Bool). m && not (b && p e)) (sym (below_other e n ne))

stays : (m b : Bool) → b ≡ false → m ≡ (m && not b)
stays true b f = sym (not_from_false b f)
stays false b f = refl

leaves : (m b : Bool) → b ≡ true → false ≡ (m && not b)
leaves true b t = sym (not_from_true b t)
leaves false b t = refl

none_below : (e : ℕ) → ltb e 0 ≡ false
none_below e = elim (cases_Bool (ltb e 0)) [
  | inl holds ↦ absurd (omega (arith, ltb-true e 0 holds))
  | inr away ↦ away
]

pub left_at_start : (p : NodeSet) (s : SetsValue) → HaveLeftBelow p 0 s s
left_at_start p s = record {
  moves = moves_self s;
  causes_left = refl;
  effects_left = refl;
  support = refl;
  each = λ e. stays (has_mark s.marks e) (ltb e 0 && p e)
      (ap (λ (b : Bool). b && p e) (none_below e));
}

module _ (p : NodeSet) (n : ℕ) (s t : SetsValue) (h : HaveLeftBelow p n s t) where
  pub left_here : p n ≡ true → HaveLeftBelow p (n + 1) s (removed t n)
  left_here holds = record {
    moves = moves_on {s = s} {t = t} {u = removed t n} h.moves (removed_moves t n);
    causes_left = removed_causes t n ∙ h.causes_left;
    effects_left = removed_effects t n ∙ h.effects_left;
    support = removed_support t n ∙ h.support;
    each = λ e. elim (cases_eq e n) [
      | inl same ↦
          let P : ℕ → Type 0 = λ x. has_mark (removed t n).marks x
          ≡ (has_mark s.marks x && not (ltb x (n + 1) && p x)) in
          subst P (sym same) (removed_gone t n
          ∙ leaves (has_mark s.marks n) (ltb n (n + 1) && p n)
          (and_from (ltb n (n + 1)) (p n) (lt-ltb n (n + 1) (omega arith)) holds))
      | inr ne ↦ removed_other t n e ne ∙ (h.each e ∙ same_test p e n (has_mark s.marks e) ne)
    ];
  }

  pub left_past : p n ≡ false → HaveLeftBelow p (n + 1) s t
  left_past none = record {
    moves = h.moves;
    causes_left = h.causes_left;
    effects_left = h.effects_left;
    support = h.support;
    each = λ e. elim (cases_eq e n) [
      | inl same ↦
          let P : ℕ → Type 0 = λ x. has_mark t.marks x
          ≡ (has_mark s.marks x && not (ltb x (n + 1) && p x)) in
          subst P (sym same) (h.each n
          ∙ (sym (stays (has_mark s.marks n) (ltb n n && p n) (and_right (ltb n n) (p n) none))
          ∙ stays (has_mark s.marks n) (ltb n (n + 1) && p n)
          (and_right (ltb n (n + 1)) (p n) none)))
      | inr ne ↦ h.each e ∙ same_test p e n (has_mark s.marks e) ne
    ];
  }

-- counters stay right
pub exact_moved : (v : IncidenceValue) (cut : CutsOf) (s t : SetsValue) → AreExact v cut s [] []
    → Moves s t → t.causes_left ≡ s.causes_left → t.effects_left ≡ s.effects_left
    → t.support ≡ s.support → AreExact v cut t [] []
exact_moved v cut s t h m c d u = record {
  sized = record {
    marks = m.size ∙ h.sized.marks;
    support = ap length u ∙ h.sized.support;
    causes_left = ap length c ∙ h.sized.causes_left;
    effects_left = ap length d ∙ h.sized.effects_left;
  };
  causes = λ j j_in. omega (
    arith,
    ap (λ (xs : List ℕ). get_or xs j 0) c,
    h.causes j j_in,
    m.weights (row_at v.causes j),
  );
  effects = λ j j_in. omega (
    arith,
    ap (λ (xs : List ℕ). get_or xs j 0) d,
    h.effects j j_in,
    m.weights (uncut v cut j),
  );
  support = λ e e_in. omega (
    arith,
    ap (λ (xs : List ℕ). get_or xs e 0) u,
    h.support e e_in,
    ap (λ (xs : List ℕ). supports v cut xs e) c,
  );
}

pub given_moved : (root : ℕ) (s t : SetsValue) → AreGiven root s → Moves s t
    → t.support ≡ s.support → AreGiven root t
given_moved root s t g m u = record {
  each = λ e here ne.
      omega (arith, g.each e (m.shrinks e here) ne, ap (λ (xs : List ℕ). get_or xs e 0) u);
}

-- what nothing gives has left
module _ (v : IncidenceValue) (cut : CutsOf) (root : ℕ) (s t : SetsValue) (inc : IsIncidence v)
    (x : AreExact v cut s [] [])
    (h : HaveLeftBelow (λ e. is_ungiven s e root) (length v.uses) s t) where
  pub ungiven_given : AreGiven root t
  ungiven_given = record {
    each = λ e here ne.
        let e_in : e < length v.uses = omega (
          arith,
          marked_below s.marks e (h.moves.shrinks e here),
          x.sized.marks,
        ) in
        let both = and_parts (has_mark s.marks e)
        (not (ltb e (length v.uses) && is_ungiven s e root))
        (sym (h.each e) ∙ here) in
        let none : get_or s.support e 0 ≡ 0 → ⊥ = λ zero_left.
        both_ways (ltb e (length v.uses) && is_ungiven s e root)
        (not-true (ltb e (length v.uses) && is_ungiven s e root) both.1)
        (and_from (ltb e (length v.uses)) (is_ungiven s e root)
        (lt-ltb e (length v.uses) e_in)
        (and_from (eqb (get_or s.support e 0) 0) (not (eqb e root))
        (eq-eqb (get_or s.support e 0) 0 zero_left)
        (not_from_false (eqb e root) (ne_eqb e root ne)))) in
        omega (arith, none, ap (λ (xs : List ℕ). get_or xs e 0) h.support);
  }

  pub ungiven_keeps : KeepsFit (wiring_cut v cut) root s t
  ungiven_keeps = record {
    keeps = λ Y f w e y. elim (cases_Bool
        (ltb e (length v.uses) && is_ungiven s e root)) [
          | inr away ↦ h.each e ∙ (sym (stays (has_mark s.marks e)
              (ltb e (length v.uses) && is_ungiven s e root) away) ∙ w e y)
          | inl gone ↦
              let p = and_parts (ltb e (length v.uses)) (is_ungiven s e root) gone in
              let q = and_parts (eqb (get_or s.support e 0) 0) (not (eqb e root)) p.1 in
              let e_in = ltb-true e (length v.uses) p.0 in
              absurd (unfit_unsupported v cut root s e Y inc
              (λ j j_in. omega (arith, x.causes j j_in))
              (omega (arith, eqb-true (get_or s.support e 0) 0 q.0, x.support e e_in)) f w
              (λ same. both_ways (eqb e root) (not-true (eqb e root) q.1) (eq-eqb e root same)) y)
        ];
  }

-- the causes of an instance that shows too little leave
module _ (v : IncidenceValue) (cut : CutsOf) (root j : ℕ) (s t u : SetsValue)
    (x : AreExact v cut t [] []) (j_in : j < length v.causes)
    (few : get_or t.effects_left j 0 < get_or v.n j 0) (l : CausesLeave v j t u) where
  pub unmet_keeps : KeepsFit (wiring_cut v cut) root t u
  unmet_keeps = record {
    keeps = λ Y f w e y. elim (cases_Bool (is_member (row_at v.causes j) e)) [
      | inl cause ↦ absurd (unfit_unmet v cut root t j e Y
          (omega (arith, few, x.effects j j_in)) f w cause y)
      | inr other ↦ l.others e (w e y) other
    ];
  }

  pub unmet_met : AreMetBelow v j t → AreMetBelow v (j + 1) u
  unmet_met m = record {
    each = λ i e low cause here. elim (cases_eq i j) [
      | inl same ↦ absurd (both_ways (has_mark u.marks e)
          (l.away e (ap (λ (z : ℕ). is_member (row_at v.causes z) e) (sym same) ∙ cause)) here)
      | inr ne ↦ omega (
        arith,
        ap (λ (xs : List ℕ). get_or xs i 0) l.effects_left,
        m.each i e (omega (arith, low, ne)) cause (l.moves.shrinks e here),
      )
    ];
  }

pub met_past : (v : IncidenceValue) (j : ℕ) (t : SetsValue)
    → get_or v.n j 0 ≤ get_or t.effects_left j 0 → AreMetBelow v j t → AreMetBelow v (j + 1) t
met_past v j t enough m = record {
  each = λ i e low cause here. elim (cases_eq i j) [
    | inl same ↦
        let P : ℕ → Type 0 = λ z. get_or v.n z 0 ≤ get_or t.effects_left z 0 in
        subst P (sym same) enough
    | inr ne ↦ m.each i e (omega (arith, low, ne)) cause here
  ];
}

pub met_all : (v : IncidenceValue) (t : SetsValue) → AreMetBelow v (length v.causes) t → AreMet v t
met_all v t m = record {
  each = λ j e cause here.
      m.each j e (row_in_range v.causes j e cause) cause here;
}

pub way_start : (v : IncidenceValue) (cut : CutsOf) (root : ℕ) (s : SetsValue)
    → IsOnWay v cut root s s
way_start v cut root s = record { moves = moves_self s; keeps = keeps_self v cut root s }

pub way_on : (v : IncidenceValue) (cut : CutsOf) (root : ℕ) (s t u : SetsValue)
    → IsOnWay v cut root s t → IsOnWay v cut root t u → IsOnWay v cut root s u
way_on v cut root s t u a b = record {
  moves = moves_on {s = s} {t = t} {u = u} a.moves b.moves;
  keeps = keeps_on v cut root s t u a.keeps b.keeps;
}
