-- Certainties: each is at most 100, and they come to 100.
use Rattle.std.proofs.Common.{◌≡◌, ℕ, zero, suc, ◌+◌, ◌-◌, ◌*◌, ◌<◌, ◌≤◌, nat_le, IsTrue}
use Rattle.std.proofs.Common.{List, [], ◌∷◌, length, map, refl, ap, ◌∙◌, arith, ◌⊎◌, inl, inr}
use Rattle.std.proofs.Common.{sum}
use Rattle.std.specs.List.{list_all}
use Rattle.std.proofs.lemmas.Bool.{and_from, le-leb}
use Rattle.std.proofs.lemmas.List.{length-map}
use Rattle.std.proofs.lemmas.List.Sums.{sum_by-cons}
use Rattle.std.proofs.Math.Nat.{mul-add, mul-div-le, div-zero, le_of_mul-le-mul_left}
use Rattle.dx_step.specs.Certainty.{share, shares, with_rest, certainties}

-- shares of a total come to no more than the same shares of 100
shares_most : (total : ℕ) (rates : List ℕ)
    → total * sum (map (share total) rates) ≤ 100 * sum rates
shares_most total [] = omega arith
shares_most total (x ∷ xs) =
    let rest = shares_most total xs in
    let first = mul-div-le (100 * x) total in
    let left : sum (map (share total) (x ∷ xs)) ≡ share total x + sum (map (share total) xs) =
    sum_by-cons (λ n. n) (share total x) (map (share total) xs) in
    let right : sum (x ∷ xs) ≡ x + sum xs = sum_by-cons (λ n. n) x xs in
    let all : total * sum (map (share total) (x ∷ xs))
    ≡ total * share total x + total * sum (map (share total) xs) =
    ap (λ n. total * n) left ∙ mul-add total (share total x) (sum (map (share total) xs)) in
    omega arith

none_shared : (rates : List ℕ) → sum (map (share 0) rates) ≡ 0
none_shared [] = refl
none_shared (x ∷ xs) =
    sum_by-cons (λ n. n) (share 0 x) (map (share 0) xs)
    ∙ (let first = div-zero (100 * x) in let rest = none_shared xs in omega arith)

some_or_none : (n : ℕ) → (n ≡ 0) ⊎ (0 < n)
some_or_none zero = inl refl
some_or_none (suc n) = inr (omega arith)

pub shares_few : (rates : List ℕ) → sum (shares rates) ≤ 100
shares_few rates =
    elim (some_or_none (sum rates)) [
      | inl none ↦
          let same : sum (map (share (sum rates)) rates) ≡ sum (map (share 0) rates) =
          ap (λ (n : ℕ). sum (map (share n) rates)) none in
          let all = none_shared rates in
          omega arith
      | inr some ↦
          let most = shares_most (sum rates) rates in
          le_of_mul-le-mul_left {m = sum (shares rates)} {n = 100} {k = sum rates}
          (omega arith) some
    ]

-- no number is above the sum
each_low : (n : ℕ) (xs : List ℕ) → sum xs ≤ n → IsTrue (list_all (λ x. nat_le x n) xs)
each_low n [] h = refl
each_low n (x ∷ xs) h =
    let all = sum_by-cons (λ n. n) x xs in
    and_from (nat_le x n) _ (le-leb x n (omega arith)) (each_low n xs (omega arith))

rest_low : (xs : List ℕ) → sum xs ≤ 100
    → IsTrue (list_all (λ x. nat_le x 100) (with_rest (100 - sum xs) xs))
rest_low [] h = refl
rest_low (x ∷ xs) h =
    let all : sum (x ∷ xs) ≡ x + sum xs = sum_by-cons (λ n. n) x xs in
    and_from (nat_le (x + (100 - sum (x ∷ xs))) 100) _
    (le-leb (x + (100 - sum (x ∷ xs))) 100 (omega arith)) (each_low 100 xs (omega arith))

pub certain_low : (rates : List ℕ) → IsTrue (list_all (λ x. nat_le x 100) (certainties rates))
unfolding certainties
certain_low rates = rest_low (shares rates) (shares_few rates)

length_rest : (n : ℕ) (xs : List ℕ) → length (with_rest n xs) ≡ length xs
length_rest n [] = refl
length_rest n (x ∷ xs) = refl

pub certain_many : (rates : List ℕ) → length (certainties rates) ≡ length rates
unfolding certainties
certain_many rates =
    length_rest (100 - sum (shares rates)) (shares rates) ∙ length-map rates (share (sum rates))

rest_all : (xs : List ℕ) → 0 < length xs → sum xs ≤ 100
    → sum (with_rest (100 - sum xs) xs) ≡ 100
rest_all [] some h = absurd (omega arith)
rest_all (x ∷ xs) some h =
    let all : sum (x ∷ xs) ≡ x + sum xs = sum_by-cons (λ n. n) x xs in
    sum_by-cons (λ n. n) (x + (100 - sum (x ∷ xs))) xs ∙ omega arith

-- the certainties of some suspects come to 100
pub certain_all : (rates : List ℕ) → 0 < length rates → sum (certainties rates) ≡ 100
unfolding certainties
certain_all rates some =
    rest_all (shares rates)
    (let many = length-map rates (share (sum rates)) in omega arith) (shares_few rates)
