-- Sets of numbers: rising lists with the same members are the same, and the numbers of nodes that
-- pass a test rise.
use Rattle.std.proofs.Common.{◌≡◌, ◌<◌, ◌≤◌, ◌+◌, ◌==◌, ◌||◌, ℕ, zero, suc, Bool, true, false}
use Rattle.std.proofs.Common.{List, [], ◌∷◌, length, get_or, slice_get, slice_index, Some}
use Rattle.std.proofs.Common.{refl, sym, ap, ◌∙◌, subst, arith, inl, inr, nat_lt, eqb, add-one}
use Rattle.std.proofs.Common.{IsPermutation}
use Rattle.std.specs.List.{Contains, dedup}
use Rattle.std.specs.List.Sorted.{IsStrictlyIncreasing, IsSorted}
use Rattle.std.specs.Ordering.{nat_cmp}
use Rattle.std.proofs.lemmas.Bool.{cases_Bool, eq-eqb, eqb-true, false≢true}
use Rattle.std.proofs.lemmas.Bool.Decides.{nat_tests}
use Rattle.std.proofs.lemmas.List.Folds.{list_any_at}
use Rattle.std.proofs.lemmas.List.Kept.{Contains-dedup_nat, Contains-from_dedup}
use Rattle.std.proofs.lemmas.List.Sorted.{Contains-permutation, IsPermutation-sym}
use Rattle.std.proofs.lemmas.Map.Keys.{IsStrictlyIncreasing-dedup}
use Rattle.std.proofs.lemmas.Option.{get_or_from_slice_get}
use Rattle.ev_join.specs.Tables.{RisesFrom}
use Rattle.ev_incidence.specs.Sets.{is_member}
use Rattle.ev_events.proofs.Places.{any_found, same_tests, within_is}
use Rattle.ev_inst.specs.Gathering.{some_passes}
use Rattle.ev_inst.specs.Outcomes.{numbers_with}

none_below : (n low : ℕ) (xs : List ℕ) → RisesFrom low xs → n < low → is_member xs n ≡ false
none_below n low [] h less = refl
none_below n low (x ∷ xs) h less =
    let up = h.0 in
    let other : (x == n) ≡ false = grind (arith, nat_tests) in
    ap (λ (b : Bool). b || is_member xs n) other
    ∙ none_below n (x + 1) xs h.1 (omega (arith, less, up))

here : (x : ℕ) (xs : List ℕ) → is_member (x ∷ xs) x ≡ true
here x xs = ap (λ (b : Bool). b || is_member xs x) (eq-eqb x x refl)

pub same_rising : (low : ℕ) (xs ys : List ℕ) → RisesFrom low xs → RisesFrom low ys
    → ((n : ℕ) → is_member xs n ≡ is_member ys n) → xs ≡ ys
same_rising low [] [] h k same = refl
same_rising low [] (y ∷ ys) h k same = absurd (false≢true (same y ∙ here y ys))
same_rising low (x ∷ xs) [] h k same = absurd (false≢true (sym (same x) ∙ here x xs))
same_rising low (x ∷ xs) (y ∷ ys) h k same = elim (cases_Bool (nat_lt x y)) [
  | inl less ↦
      absurd (false≢true (sym (none_below x y (y ∷ ys) (omega arith, k.1) (grind
      (arith, nat_tests)))
      ∙ sym (same x) ∙ here x xs))
  | inr no_less ↦ elim (cases_Bool (nat_lt y x)) [
    | inl less ↦
        absurd (false≢true (sym (none_below y x (x ∷ xs) (omega arith, h.1)
        (grind (arith, nat_tests))) ∙ same y ∙ here y ys))
    | inr neither ↦
        let is : x ≡ y = grind (arith, nat_tests) in
        let more = same_rising (x + 1) xs ys h.1
        (subst (λ (n : ℕ). RisesFrom (n + 1) ys) (sym is) k.1)
        (λ n. elim (cases_Bool (x == n)) [
          | inl at ↦
              let e : x ≡ n = eqb-true x n at in
              none_below n (x + 1) xs h.1 (omega (arith, e))
              ∙ sym (none_below n (y + 1) ys k.1 (omega (arith, e, is)))
          | inr other ↦
              let other_y : (y == n) ≡ false = ap (λ (z : ℕ). z == n) (sym is) ∙ other in
              ap (λ (b : Bool). b || is_member xs n) (sym other) ∙ same n
              ∙ ap (λ (b : Bool). b || is_member ys n) other_y
        ]) in
        λ i. is i ∷ more i
  ]
]

-- ---- a sort without doubles
tail_increases : (x : ℕ) (xs : List ℕ) → IsStrictlyIncreasing (x ∷ xs) → IsStrictlyIncreasing xs
tail_increases x xs h k l =
    let e : suc k + 1 ≡ suc (k + 1) = omega arith in
    subst (λ (n : ℕ). slice_index xs k < slice_index (x ∷ xs) n) e (h (suc k) (omega (arith, l)))

increasing_rises : (xs : List ℕ) (low : ℕ) → IsStrictlyIncreasing xs
    → ((x : ℕ) → slice_get xs 0 ≡ Some x → low ≤ x) → RisesFrom low xs
increasing_rises [] low h first = tt
increasing_rises (x ∷ []) low h first = (first x refl, tt)
increasing_rises (x ∷ y ∷ ys) low h first = (
  first x refl,
  increasing_rises (y ∷ ys) (x + 1) (tail_increases x (y ∷ ys) h)
      (λ z e. let is : y ≡ z = cc in
      let up : x < y = h 0 (omega arith) in omega (arith, up, is)),
)

pub set_rises : (xs : List ℕ) → IsSorted nat_cmp xs → RisesFrom 0 (dedup eqb xs)
set_rises xs sorted =
    increasing_rises (dedup eqb xs) 0 (IsStrictlyIncreasing-dedup xs sorted) (λ x e. omega arith)

member_contains : (xs : List ℕ) (n : ℕ) → is_member xs n ≡ true → Contains xs n
member_contains xs n h =
    let found = any_found (λ x. x == n) xs h in
    let is = eqb-true found.1 n found.3 in (
      found.0,
      within_is xs found.0 found.1 found.2,
      get_or_from_slice_get xs found.0 found.1 n
          found.2 ∙ is,
    )

contains_member : (xs : List ℕ) (n : ℕ) → Contains xs n → is_member xs n ≡ true
contains_member xs n h =
    list_any_at (λ x. x == n) xs h.0 n h.1 (eq-eqb (get_or xs h.0 n) n h.2)

pub set_members : (numbers sorted : List ℕ) → IsPermutation numbers sorted → (n : ℕ)
    → is_member (dedup eqb sorted) n ≡ is_member numbers n
set_members numbers sorted moved n =
    same_tests (is_member (dedup eqb sorted) n) (is_member numbers n)
    (λ h. contains_member numbers n
    (Contains-permutation sorted numbers n (IsPermutation-sym numbers sorted moved)
    (Contains-from_dedup eqb sorted n (member_contains (dedup eqb sorted) n h))))
    (λ h. contains_member (dedup eqb sorted) n
    (Contains-dedup_nat sorted n
    (Contains-permutation numbers sorted n moved (member_contains numbers n h))))

-- ---- the numbers of nodes that pass a test
pub numbers_rise : {X : Type 0} (test : X → Bool) (at : ℕ) (nodes : List X)
    → RisesFrom at (numbers_with test at nodes)
numbers_rise test at [] = tt
numbers_rise test at (node ∷ more) = elim (cases_Bool (test node)) [
  | inl so ↦
      rw so (
        omega arith,
        subst (λ (n : ℕ). RisesFrom n (numbers_with test (suc at) more)) (sym (add-one at))
            (numbers_rise test (suc at) more),
      )
  | inr not_so ↦ rw not_so (lower at (numbers_with test (suc at) more)
      (numbers_rise test (suc at) more))
] where
  lower : (n : ℕ) (xs : List ℕ) → RisesFrom (suc n) xs → RisesFrom n xs
  lower n [] h = tt
  lower n (x ∷ xs) h = let up = h.0 in (omega (arith, up), h.1)

number_member : {X : Type 0} (test : X → Bool) (at i : ℕ) (nodes : List X)
    → is_member (numbers_with test at nodes) (at + i) ≡ some_passes test (slice_get nodes i)
number_member test at i [] = refl
number_member test at zero (node ∷ more) =
    let same : at + 0 ≡ at = omega arith in
    elim (cases_Bool (test node)) [
      | inl so ↦
          rw so (ap (λ (b : Bool). b || is_member (numbers_with test (suc at) more) (at + 0))
          (eq-eqb at (at + 0) (sym same)))
      | inr not_so ↦
          rw not_so (none_below (at + 0) (suc at) (numbers_with test (suc at) more)
          (numbers_rise test (suc at) more) (omega arith))
    ]
number_member test at (suc i) (node ∷ more) =
    let same : at + suc i ≡ suc at + i = omega arith in
    let later : is_member (numbers_with test (suc at) more) (at + suc i)
    ≡ some_passes test (slice_get more i) =
    ap (is_member (numbers_with test (suc at) more)) same ∙ number_member test (suc at) i more in
    elim (cases_Bool (test node)) [
      | inl so ↦
          let other : (at == (at + suc i)) ≡ false = grind (arith, nat_tests) in
          rw so (ap (λ (b : Bool). b || is_member (numbers_with test (suc at) more) (at + suc i))
          other ∙ later)
      | inr not_so ↦ rw not_so later
    ]

pub numbers_member : {X : Type 0} (test : X → Bool) (nodes : List X) (n : ℕ)
    → is_member (numbers_with test 0 nodes) n ≡ some_passes test (slice_get nodes n)
numbers_member test nodes n =
    let same : n ≡ 0 + n = omega arith in
    ap (is_member (numbers_with test 0 nodes)) same ∙ number_member test 0 n nodes

pub numbers_few : {X : Type 0} (test : X → Bool) (at : ℕ) (nodes : List X)
    → length (numbers_with test at nodes) ≤ length nodes
numbers_few test at [] = omega arith
numbers_few test at (node ∷ more) =
    let rest = numbers_few test (suc at) more in
    elim (cases_Bool (test node)) [
      | inl so ↦ rw so (omega (arith, rest))
      | inr not_so ↦ rw not_so (omega (arith, rest))
    ]
