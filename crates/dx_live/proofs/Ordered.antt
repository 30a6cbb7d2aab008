-- Numbers that were sorted, each once.
use Rattle.std.proofs.Common.{◌≡◌, ◌+◌, ◌<◌, ℕ, zero, suc, true}
use Rattle.std.proofs.Common.{List, []}
use Rattle.std.proofs.Common.{◌∷◌, length, get_or, eqb, ltb, refl, sym, ap, subst, ◌∙◌, arith, inl}
use Rattle.std.proofs.Common.{inr}
use Rattle.std.specs.List.{Contains, dedup}
use Rattle.std.specs.List.Retain.{IsFiltered, DiffersFromLast}
use Rattle.std.specs.List.Sorted.{IsPermutation, IsSorted, IsStrictlyIncreasing}
use Rattle.std.proofs.Common.{nat_cmp}
use Rattle.std.proofs.lemmas.List.Filters.{dedup_is}
use Rattle.std.proofs.lemmas.List.Kept.{Contains-dedup_nat, Contains-from_dedup}
use Rattle.std.proofs.lemmas.List.Sorted.{list_any-IsPermutation}
use Rattle.std.proofs.lemmas.Map.Keys.{IsStrictlyIncreasing-dedup}
use Rattle.std.proofs.lemmas.Bool.{and_from, or_cases, or_left, or_right, eqb-true, eq-eqb, lt-ltb}
use Rattle.std.proofs.lemmas.Bool.{false≢true}
use Rattle.ev_incidence.specs.Sets.{is_member, ascends}
use Rattle.dx_story.proofs.Answers.{same_answer}

contains_from : (xs : List ℕ) (x : ℕ) → is_member xs x ≡ true → Contains xs x
contains_from [] x h = absurd (false≢true h)
contains_from (y ∷ ys) x h = elim (or_cases (eqb y x) (is_member ys x) h) [
  | inl here ↦ (0, omega arith, eqb-true y x here)
  | inr there ↦ let p = contains_from ys x there in (suc p.0, omega (arith, p.1), p.2)
]

contains_to : (xs : List ℕ) (x k : ℕ) → k < length xs → get_or xs k x ≡ x → is_member xs x ≡ true
contains_to [] x k l e = absurd (omega (arith, l))
contains_to (y ∷ ys) x zero l e = or_left (eqb y x) (is_member ys x) (eq-eqb y x e)
contains_to (y ∷ ys) x (suc k) l e =
    or_right (eqb y x) (is_member ys x) (contains_to ys x k (omega (arith, l)) e)

pub strict_ascends : (xs : List ℕ) → IsStrictlyIncreasing xs → ascends xs ≡ true
strict_ascends [] h = refl
strict_ascends (x ∷ []) h = refl
strict_ascends (x ∷ y ∷ ys) h =
    and_from (ltb x y) (ascends (y ∷ ys)) (lt-ltb x y (h 0 (omega arith)))
    (strict_ascends (y ∷ ys) (λ k l.
    let e : suc k + 1 ≡ suc (k + 1) = omega arith in
    let P : ℕ → Type 0 = λ m. get_or (y ∷ ys) k 0 < get_or (x ∷ y ∷ ys) m 0 in
    subst P e (h (suc k) (omega (arith, l)))))

module _ (old sorted new : List ℕ) (perm : IsPermutation old sorted) (up : IsSorted nat_cmp sorted)
    (kept : IsFiltered (DiffersFromLast eqb) [] sorted new) where
  is_dedup : new ≡ dedup eqb sorted
  is_dedup = dedup_is eqb sorted new kept

  pub once_ascends : ascends new ≡ true
  once_ascends = ap ascends is_dedup
      ∙ strict_ascends (dedup eqb sorted) (IsStrictlyIncreasing-dedup sorted up)

  pub once_members : (e : ℕ) → is_member new e ≡ is_member old e
  once_members e =
      ap (λ (xs : List ℕ). is_member xs e) is_dedup
      ∙ (same_answer (is_member (dedup eqb sorted) e) (is_member sorted e)
      (λ i.
      let p = Contains-from_dedup eqb sorted e (contains_from (dedup eqb sorted) e i) in
      contains_to sorted e p.0 p.1 p.2)
      (λ i.
      let p = Contains-dedup_nat sorted e (contains_from sorted e i) in
      contains_to (dedup eqb sorted) e p.0 p.1 p.2)
      ∙ sym (list_any-IsPermutation (λ x. eqb x e) old sorted perm))
