-- Sums over all numbers below a bound, and counts of filtered lists.
use Rattle.std.proofs.Common.{◌≡◌, ◌≢◌, ◌+◌, ◌<◌, ◌≤◌, ℕ, zero, suc, Bool, true, false}
use Rattle.std.proofs.Common.{cond, eqb, List, [], ◌∷◌, length, set, refl, sym, ap, subst}
use Rattle.std.proofs.Common.{arith, inl, inr, get_or-set_same, get_or-set_other}
use Rattle.std.specs.List.{count_by}
use Rattle.std.proofs.lemmas.List.Sums.{sum_by-cons}
use Rattle.std.proofs.lemmas.Bool.{cases_lt, cases_eq, cond-true, cond-false, eq-eqb, ne_eqb}
use Rattle.ev_incidence.specs.Sets.{has_mark, occurs}
use Rattle.ev_incidence.proofs.Occurrences.{occurs-cons}
use Rattle.dx_sets.specs.Sets.{sum_below}

pub sum_below_same : (n : ℕ) (f g : ℕ → ℕ) → ((i : ℕ) → i < n → f i ≡ g i)
    → sum_below n f ≡ sum_below n g
sum_below_same zero f g h = refl
sum_below_same (suc n) f g h =
    omega (arith, sum_below_same n f g (λ i l. h i (omega (arith, l))), h n (omega arith))

-- two terms that differ at one place
pub sum_below_change : (n : ℕ) (f g : ℕ → ℕ) (j : ℕ) → j < n → ((i : ℕ) → i < n → i ≢ j → f i ≡ g i)
    → sum_below n f + g j ≡ sum_below n g + f j
sum_below_change zero f g j l h = absurd (omega (arith, l))
sum_below_change (suc n) f g j l h = elim (cases_eq j n) [
  | inl same ↦
      let rest = sum_below_same n f g
      (λ i m. h i (omega (arith, m)) (λ e. absurd (omega (arith, e, same, m)))) in
      omega (arith, rest, ap f same, ap g same)
  | inr ne ↦
      omega (
        arith,
        sum_below_change n f g j (omega (arith, l, ne))
            (λ i m away. h i (omega (arith, m)) away),
        h n (omega arith) (λ e. ne (sym e)),
      )
]

pub term_le_sum : (n : ℕ) (f : ℕ → ℕ) (j : ℕ) → j < n → f j ≤ sum_below n f
term_le_sum zero f j l = absurd (omega (arith, l))
term_le_sum (suc n) f j l = elim (cases_eq j n) [
  | inl same ↦ omega (arith, ap f same)
  | inr ne ↦ omega (arith, term_le_sum n f j (omega (arith, l, ne)))
]

pub positive_term : (n : ℕ) (f : ℕ → ℕ) → 0 < sum_below n f → (j : ℕ) × (j < n) × (0 < f j)
positive_term zero f l = absurd (omega (arith, l))
positive_term (suc n) f l = elim (cases_lt 0 (f n)) [
  | inl here ↦ (n, omega arith, here)
  | inr none ↦ let p = positive_term n f (omega (arith, l, none)) in (p.0, omega (arith, p.1), p.2)
]

-- a mark taken away
pub count_unmark : (marks : List Bool) (e : ℕ) (xs : List ℕ) → has_mark marks e ≡ true
    → e < length marks
    → count_by (has_mark (set marks e false)) xs + occurs e xs ≡ count_by (has_mark marks) xs
count_unmark marks e [] here l = omega arith
count_unmark marks e (x ∷ xs) here l =
    let a = sum_by-cons (λ y. cond (has_mark (set marks e false) y) 1 0) x xs in
    let b = sum_by-cons (λ y. cond (has_mark marks y) 1 0) x xs in
    elim (cases_eq x e) [
      | inl same ↦
          let now : has_mark (set marks e false) x ≡ false =
          let P : ℕ → Type 0 = λ z. has_mark (set marks e false) z ≡ false in
          subst P (sym same) (get_or-set_same marks e false false l) in
          let was : has_mark marks x ≡ true = let P : ℕ → Type 0 = λ z. has_mark marks z ≡ true in
          subst P (sym same) here in
          omega (
            arith,
            a,
            b,
            occurs-cons e x xs,
            count_unmark marks e xs here l,
            cond-false {A = ℕ} (has_mark (set marks e false) x) 1 0 now,
            cond-true {A = ℕ} (has_mark marks x) 1 0 was,
            cond-true {A = ℕ} (eqb x e) 1 0 (eq-eqb x e same),
          )
      | inr ne ↦
          let now = get_or-set_other marks e x false false ne in
          omega (
            arith,
            a,
            b,
            occurs-cons e x xs,
            count_unmark marks e xs here l,
            ap {B = ℕ} (λ (m : Bool). cond m 1 0) now,
            cond-false {A = ℕ} (eqb x e) 1 0 (ne_eqb x e ne),
          )
    ]

pub sum_unmark : (marks : List Bool) (e : ℕ) (f : ℕ → ℕ) → has_mark marks e ≡ true
    → e < length marks
    → sum_below (length marks) (λ i. cond (has_mark (set marks e false) i) (f i) 0) + f e
    ≡ sum_below (length marks) (λ i. cond (has_mark marks i) (f i) 0)
sum_unmark marks e f here l =
    omega (
      arith,
      sum_below_change (length marks)
          (λ i. cond (has_mark (set marks e false) i) (f i) 0)
          (λ i. cond (has_mark marks i) (f i) 0)
          e l
          (λ i m ne. ap (λ (b : Bool). cond b (f i) 0) (get_or-set_other marks e i false false ne)),
      cond-true {A = ℕ} (has_mark marks e) (f e) 0 here,
      cond-false {A = ℕ} (has_mark (set marks e false) e) (f e) 0
          (get_or-set_same marks e false false l),
    )
