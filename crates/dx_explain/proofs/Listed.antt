-- The members of a set as a list.
use Rattle.std.proofs.Common.{◌≡◌, ◌+◌, ◌++◌, ◌<◌, ℕ, Bool, true, false, List, [], ◌∷◌, length}
use Rattle.std.proofs.Common.{eqb, ltb, refl, sym, ap, subst, ◌∙◌, inl, inr, arith}
use Rattle.std.proofs.lemmas.Bool.{cases_eq, both_ways, and_parts, and_from, or_left}
use Rattle.std.proofs.lemmas.Bool.{or_right, eq-eqb, lt-ltb, false≢true}
use Rattle.ev_incidence.specs.Sets.{NodeSet, is_member, has_mark, IsSubset, ascends}
use Rattle.ev_graph.specs.Lawful.{GraphValue}
use Rattle.ev_incidence.proofs.Occurrences.{in_push, in_more, in_last}
use Rattle.dx_sets.specs.Engine.{CutsOf}
use Rattle.dx_sets.proofs.Leaving.{marked_below}
use Rattle.dx_explain.specs.Explaining.{AreMembers, IsExplanation, IsExplanationList}
use Rattle.dx_story.proofs.Answers.{same_answer}

same_set : (X Y : NodeSet) → IsSubset X Y → IsSubset Y X → X ≡ Y
same_set X Y f h = λ i. λ e. same_answer (X e) (Y e) (f e) (h e) i

pub ascends_push : (xs : List ℕ) (y : ℕ) → ascends xs ≡ true
    → ((e : ℕ) → is_member xs e ≡ true → e < y) → ascends (xs ++ y ∷ []) ≡ true
ascends_push [] y h b = refl
ascends_push (x ∷ []) y h b =
    and_from (ltb x y) (ascends (y ∷ []))
    (lt-ltb x y (b x (or_left (eqb x x) false (eq-eqb x x refl)))) refl
ascends_push (x ∷ z ∷ zs) y h b =
    let p = and_parts (ltb x z) (ascends (z ∷ zs)) h in
    and_from (ltb x z) (ascends ((z ∷ zs) ++ y ∷ [])) p.0
    (ascends_push (z ∷ zs) y p.1 (λ e i. b e (or_right (eqb x e) (is_member (z ∷ zs) e) i)))

module _ (X : NodeSet) where
  pub members_none : AreMembers X 0 []
  members_none = record {
    ascend = refl;
    below = λ e i. absurd (false≢true i);
    each = λ e i. absurd (false≢true i);
    all = λ e l x. absurd (omega (arith, l));
  }

  pub members_push : (n : ℕ) (xs : List ℕ) → X n ≡ true → AreMembers X n xs
      → AreMembers X (n + 1) (xs ++ n ∷ [])
  members_push n xs here h = record {
    ascend = ascends_push xs n h.ascend h.below;
    below = λ e i. elim (in_push xs n e i)
        [ inl old ↦ omega (arith, h.below e old) | inr last ↦ omega (arith, last) ];
    each = λ e i. elim (in_push xs n e i)
        [ inl old ↦ h.each e old | inr last ↦ ap X (sym last) ∙ here ];
    all = λ e l x. elim (cases_eq e n) [
      | inl same ↦
          let P : ℕ → Type 0 = λ z. is_member (xs ++ n ∷ []) z ≡ true in
          subst P (sym same) (in_last xs n)
      | inr ne ↦ in_more xs (n ∷ []) e (h.all e (omega (arith, l, ne)) x)
    ];
  }

  pub members_past : (n : ℕ) (xs : List ℕ) → X n ≡ false → AreMembers X n xs
      → AreMembers X (n + 1) xs
  members_past n xs away h = record {
    ascend = h.ascend;
    below = λ e i. omega (arith, h.below e i);
    each = h.each;
    all = λ e l x. elim (cases_eq e n) [
      | inl same ↦ absurd (both_ways (X n) away (ap X (sym same) ∙ x))
      | inr ne ↦ h.all e (omega (arith, l, ne)) x
    ];
  }

pub listed : (g : GraphValue) (cut : CutsOf) (root : ℕ) (seen allowed : NodeSet)
    (marks : List Bool) (xs : List ℕ) → AreMembers (has_mark marks) (length marks) xs
    → IsExplanation g cut root seen allowed (has_mark marks)
    → IsExplanationList g cut root seen allowed xs
listed g cut root seen allowed marks xs m h = record {
  ascend = m.ascend;
  explanation =
      let P : NodeSet → Type 0 = λ X. IsExplanation g cut root seen allowed X in
      subst P (same_set (has_mark marks) (is_member xs)
      (λ e here. m.all e (marked_below marks e here) here) m.each) h;
}
