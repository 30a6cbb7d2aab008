-- Lists of numbers that rise are the same where they have each number as often.
use Rattle.std.proofs.Common.{◌≡◌, ◌<◌, ◌≤◌, ◌+◌, ◌==◌, ℕ, suc, Bool, true, false, cond}
use Rattle.std.proofs.Common.{nat_lt}
use Rattle.std.proofs.Common.{List, [], ◌∷◌, filter, slice_get, Some, get_or, IsPermutation}
use Rattle.std.proofs.Common.{refl, sym, ap, ◌∙◌, subst, arith, inl, inr}
use Rattle.std.specs.Bool.{⊤}
use Rattle.std.specs.List.{count_by}
use Rattle.std.specs.List.Sorted.{IsSortedBy}
use Rattle.std.specs.Ordering.{nat_cmp, is_lt}
use Rattle.std.proofs.lemmas.Bool.{cases_Bool, eq-eqb, eqb-true}
use Rattle.std.proofs.lemmas.Cmp.{nat_cmp_total}
use Rattle.std.proofs.lemmas.Grind.{common_steps}
use Rattle.std.proofs.lemmas.List.Sums.{sum_by-cons}
use Rattle.std.proofs.lemmas.List.Sorted.{ranks_by, sorted_far, sum_by-IsPermutation}
use Rattle.std.proofs.lemmas.Option.{get_or_from_slice_get, slice_get_within}
use Rattle.fm_topo.specs.Topology.{Topology}
use Rattle.ev_events.specs.Fits.{places_with}

-- how often a number stands in a list
abbrev pub often : ℕ → List ℕ → ℕ
often n xs = count_by (λ m. m == n) xs

often_cons : (n x : ℕ) (xs : List ℕ) → often n (x ∷ xs) ≡ cond (x == n) 1 0 + often n xs
often_cons n x xs = sum_by-cons (λ m. cond (m == n) 1 0) x xs

often_here : (n : ℕ) (xs : List ℕ) → 0 < often n (n ∷ xs)
often_here n xs =
    let same : (n == n) ≡ true = eq-eqb n n refl in
    let one : ◌≡◌ {A = ℕ} (cond (n == n) 1 0) 1 = ap (λ (b : Bool). cond b 1 0) same in
    let all = often_cons n n xs in
    omega (arith, one, all)

-- each number is at least the one before
abbrev pub Rising : ℕ → List ℕ → Type 0
Rising low [] = ⊤
Rising low (x ∷ xs) = (low ≤ x) × Rising x xs

weaker : (low less : ℕ) (xs : List ℕ) → less ≤ low → Rising low xs → Rising less xs
weaker low less [] le h = tt
weaker low less (x ∷ xs) le h = (omega (arith, le, h.0), h.1)

none_below : (n low : ℕ) (xs : List ℕ) → Rising low xs → n < low → often n xs ≡ 0
none_below n low [] h less = refl
none_below n low (x ∷ xs) h less =
    let other : (x == n) ≡ false = grind (arith, common_steps, h.0, less) in
    let none : ◌≡◌ {A = ℕ} (cond (x == n) 1 0) 0 = ap (λ (b : Bool). cond b 1 0) other in
    let more = none_below n x xs h.1 (omega (arith, h.0, less)) in
    let all = often_cons n x xs in
    omega (arith, none, more, all)

pub rising_same : (xs ys : List ℕ) (low : ℕ) → Rising low xs → Rising low ys
    → ((n : ℕ) → often n xs ≡ often n ys) → xs ≡ ys
rising_same [] [] low h k same = refl
rising_same [] (y ∷ ys) low h k same =
    let some = often_here y ys in
    let none : 0 ≡ often y (y ∷ ys) = same y in
    absurd (omega (arith, some, none))
rising_same (x ∷ xs) [] low h k same =
    let some = often_here x xs in
    let none : often x (x ∷ xs) ≡ 0 = same x in
    absurd (omega (arith, some, none))
rising_same (x ∷ xs) (y ∷ ys) low h k same = elim (cases_Bool (nat_lt x y)) [
  | inl so ↦
      let less : x < y = grind (arith, common_steps, so) in
      let some = often_here x xs in
      let none = none_below x y (y ∷ ys) (omega arith, k.1) less in
      let both = same x in
      absurd (omega (arith, some, none, both))
  | inr not_so ↦ elim (cases_Bool (nat_lt y x)) [
    | inl so ↦
        let less : y < x = grind (arith, common_steps, so) in
        let some = often_here y ys in
        let none = none_below y x (x ∷ xs) (omega arith, h.1) less in
        let both = same y in
        absurd (omega (arith, some, none, both))
    | inr not_either ↦
        let is : x ≡ y = grind (arith, common_steps, not_so, not_either) in
        let more = rising_same xs ys y (subst (λ (n : ℕ). Rising n xs) is h.1) k.1
        (λ n. let left = often_cons n x xs in
        let right = often_cons n y ys in
        let both = same n in
        let first : ◌≡◌ {A = ℕ} (cond (x == n) 1 0) (cond (y == n) 1 0) =
        ap (λ (z : ℕ). cond (z == n) 1 0) is in
        omega (arith, left, right, both, first)) in
        λ i. is i ∷ more i
  ]
]

-- ---- sorted numbers rise
pairs_rise : (xs : List ℕ) (low : ℕ)
    → ((i x : ℕ) → slice_get xs i ≡ Some x → low ≤ x)
    → ((i j x y : ℕ) → i ≤ j → slice_get xs i ≡ Some x → slice_get xs j ≡ Some y → x ≤ y)
    → Rising low xs
pairs_rise [] low h k = tt
pairs_rise (x ∷ xs) low h k = (
  h 0 x refl,
  pairs_rise xs x (λ i y s. k 0 (suc i) x y (omega arith) refl s)
      (λ i j y z le s t. k (suc i) (suc j) y z (omega (arith, le)) s t),
)

not_less : (x y : ℕ) → is_lt (nat_cmp y x) ≡ false → x ≤ y
not_less x y e = elim (cases_Bool (nat_lt y x)) [
  | inl less ↦ let f = rw less at e in absurd (let bad : ⊥ = cc in bad)
  | inr fine ↦ grind (arith, common_steps, fine)
]

pub sorted_rise : (xs : List ℕ) → IsSortedBy (λ (a b : ℕ). is_lt (nat_cmp a b)) xs → Rising 0 xs
sorted_rise xs up =
    pairs_rise xs 0 (λ i x s. omega arith)
    (λ i j x y le s t.
    let far = sorted_far (λ (a b : ℕ). is_lt (nat_cmp a b))
    (ranks_by nat_cmp_total (λ (z : ℕ). z)) xs up i j x le (slice_get_within xs j y t) in
    let at_j = get_or_from_slice_get xs j y x t in
    let at_i = get_or_from_slice_get xs i x x s in
    not_less x y
    (ap (λ (z : ℕ). is_lt (nat_cmp z x)) (sym at_j)
    ∙ ap (λ (z : ℕ). is_lt (nat_cmp (get_or xs j x) z)) (sym at_i) ∙ far))

pub places_rise : (test : List ℕ → Bool) (at : ℕ) (more : Topology)
    → Rising at (places_with test at more)
places_rise test at [] = tt
places_rise test at (place ∷ more) = elim (cases_Bool (test place.0)) [
  | inl so ↦
      rw so (omega arith, weaker (suc at) at _ (omega arith) (places_rise test (suc at) more))
  | inr not_so ↦
      rw not_so (weaker (suc at) at _ (omega arith) (places_rise test (suc at) more))
]

-- ---- numbers that pass a test
pub often_passing : (p : ℕ → Bool) (n : ℕ) (xs : List ℕ)
    → often n (filter p xs) ≡ cond (p n) (often n xs) 0
often_passing p n [] = by (p n) where
  by : (b : Bool) → ◌≡◌ {A = ℕ} 0 (cond b 0 0)
  by true = refl
  by false = refl
often_passing p n (x ∷ xs) = elim (cases_Bool (x == n)) [
  | inl here ↦
      let same : x ≡ n = eqb-true x n here in
      elim (cases_Bool (p x)) [
        | inl so ↦
            let kept : p n ≡ true = ap p (sym same) ∙ so in
            let front : filter p (x ∷ xs) ≡ x ∷ filter p xs = rw so refl in
            ap (often n) front ∙ often_cons n x (filter p xs)
            ∙ ap (λ (m : ℕ). cond (x == n) 1 0 + m) (often_passing p n xs
            ∙ ap (λ (b : Bool). cond b (often n xs) 0) kept)
            ∙ sym (often_cons n x xs)
            ∙ sym (ap (λ (b : Bool). cond b (often n (x ∷ xs)) 0) kept)
        | inr not_so ↦
            let left : p n ≡ false = ap p (sym same) ∙ not_so in
            let front : filter p (x ∷ xs) ≡ filter p xs = rw not_so refl in
            ap (often n) front ∙ often_passing p n xs
            ∙ ap (λ (b : Bool). cond b (often n xs) 0) left
            ∙ sym (ap (λ (b : Bool). cond b (often n (x ∷ xs)) 0) left)
      ]
  | inr other ↦
      let none : ◌≡◌ {A = ℕ} (cond (x == n) 1 0) 0 = ap (λ (b : Bool). cond b 1 0) other in
      let whole : often n (x ∷ xs) ≡ often n xs =
      let all = often_cons n x xs in omega (arith, none, all) in
      let front : often n (filter p (x ∷ xs)) ≡ often n (filter p xs) = elim (cases_Bool (p x)) [
        | inl so ↦
            let kept : filter p (x ∷ xs) ≡ x ∷ filter p xs = rw so refl in
            let all = ap (often n) kept ∙ often_cons n x (filter p xs) in
            omega (arith, none, all)
        | inr not_so ↦
            let kept : filter p (x ∷ xs) ≡ filter p xs = rw not_so refl in ap (often n) kept
      ] in
      front ∙ often_passing p n xs ∙ sym (ap (λ (m : ℕ). cond (p n) m 0) whole)
]

pub often_moved : (n : ℕ) (xs ys : List ℕ) → IsPermutation xs ys → often n ys ≡ often n xs
often_moved n xs ys moved = sum_by-IsPermutation (λ m. cond (m == n) 1 0) xs ys moved
