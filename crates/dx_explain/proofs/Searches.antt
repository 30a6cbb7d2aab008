-- What the searches find, and that they miss nothing.
use Rattle.std.proofs.Common.{◌≡◌, ◌<◌, ◌&&◌, ℕ, zero, suc, Bool, true, false}
use Rattle.std.proofs.Common.{eqb, ltb, refl, inl, inr, sym, ap, ◌∙◌, arith}
use Rattle.std.proofs.lemmas.Bool.{cases_Bool, cases_eq, and_parts, and_from, or_cases, or_left}
use Rattle.std.proofs.lemmas.Bool.{or_right, eq-eqb, eqb-true, lt-ltb, ltb-true, false≢true}
use Rattle.std.proofs.lemmas.Bool.{both_ways}
use Rattle.ev_incidence.specs.Sets.{NodeSet}
use Rattle.dx_story.proofs.Answers.{same_answer}
use Rattle.dx_explain.specs.Search.{some_below, every_below, some_set, empty_set, with_member}
use Rattle.dx_explain.specs.Search.{IsSetBelow}

pub some_found : (n : ℕ) (p : ℕ → Bool) → some_below n p ≡ true
    → (e : ℕ) × (e < n) × (p e ≡ true)
unfolding some_below
some_found zero p h = absurd (false≢true h)
some_found (suc n) p h = elim (or_cases (some_below n p) (p n) h) [
  | inl before ↦ let r = some_found n p before in (r.0, omega (arith, r.1), r.2)
  | inr last ↦ (n, omega arith, last)
]

pub some_from : (n : ℕ) (p : ℕ → Bool) (e : ℕ) → e < n → p e ≡ true → some_below n p ≡ true
unfolding some_below
some_from zero p e l h = absurd (omega (arith, l))
some_from (suc n) p e l h = elim (cases_eq e n) [
  | inl same ↦ or_right (some_below n p) (p n) (ap p (sym same) ∙ h)
  | inr ne ↦ or_left (some_below n p) (p n) (some_from n p e (omega (arith, l, ne)) h)
]

pub every_at : (n : ℕ) (p : ℕ → Bool) (e : ℕ) → every_below n p ≡ true → e < n → p e ≡ true
unfolding every_below
every_at zero p e h l = absurd (omega (arith, l))
every_at (suc n) p e h l =
    let q = and_parts (every_below n p) (p n) h in
    elim (cases_eq e n) [
      | inl same ↦ ap p same ∙ q.1
      | inr ne ↦ every_at n p e q.0 (omega (arith, l, ne))
    ]

pub every_from : (n : ℕ) (p : ℕ → Bool) → ((e : ℕ) → e < n → p e ≡ true)
    → every_below n p ≡ true
unfolding every_below
every_from zero p h = refl
every_from (suc n) p h =
    and_from (every_below n p) (p n) (every_from n p (λ e l. h e (omega (arith, l))))
    (h n (omega arith))

same_set : (X Y : NodeSet) → ((e : ℕ) → X e ≡ Y e) → X ≡ Y
same_set X Y h = λ i. λ e. h e i

-- the members below n
below : ℕ → NodeSet → NodeSet
below n X e = X e && ltb e n

pub set_found : (n : ℕ) (test : NodeSet → Bool) → some_set n test ≡ true
    → (X : NodeSet) × IsSetBelow n X × (test X ≡ true)
unfolding some_set
set_found zero test h = (empty_set, (λ e here. absurd (false≢true here)), h)
set_found (suc n) test h =
    let more : NodeSet → Bool = λ X. test (with_member n X) in
    elim (or_cases (some_set n test) (some_set n more) h) [
      | inl less ↦
          let r = set_found n test less in
          (r.0, (λ e here. omega (arith, r.1 e here)), r.2)
      | inr there ↦
          let r = set_found n more there in (
            with_member n r.0,
            (λ e here. elim (or_cases (r.0 e) (eqb e n) here) [
              | inl old ↦ omega (arith, r.1 e old)
              | inr last ↦ omega (arith, eqb-true e n last)
            ]),
            r.2,
          )
    ]

pub set_passes : (n : ℕ) (test : NodeSet → Bool) (X : NodeSet) → IsSetBelow n X → test X ≡ true
    → some_set n test ≡ true
unfolding some_set below
set_passes zero test X h t =
    ap test (sym (same_set X empty_set (λ e. same_answer (X e) false
    (λ here. absurd (omega (arith, h e here))) (λ f. absurd (false≢true f))))) ∙ t
set_passes (suc n) test X h t =
    let more = some_set n (λ Z. test (with_member n Z)) in
    elim (cases_Bool (X n)) [
      | inl last ↦ or_right (some_set n test) more
          (set_passes n (λ Z. test (with_member n Z)) (below n X)
          (λ e here. ltb-true e n (and_parts (X e) (ltb e n) here).1)
          (ap test (same_set (with_member n (below n X)) X (λ e. same_answer
          (with_member n (below n X) e) (X e)
          (λ here. elim (or_cases (below n X e) (eqb e n) here) [
            | inl old ↦ (and_parts (X e) (ltb e n) old).0
            | inr same ↦ ap X (eqb-true e n same) ∙ last
          ])
          (λ here. elim (cases_eq e n) [
            | inl same ↦ or_right (below n X e) (eqb e n) (eq-eqb e n same)
            | inr ne ↦ or_left (below n X e) (eqb e n)
                (and_from (X e) (ltb e n) here
                (lt-ltb e n (omega (arith, h e here, ne))))
          ]))) ∙ t))
      | inr none ↦ or_left (some_set n test) more
          (set_passes n test X (λ e here. elim (cases_eq e n) [
            | inl same ↦ absurd (both_ways (X n) none (ap X (sym same) ∙ here))
            | inr ne ↦ omega (arith, h e here, ne)
          ]) t)
    ]
