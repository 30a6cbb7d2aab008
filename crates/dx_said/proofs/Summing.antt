-- Sums of rates and of shares.
use Rattle.std.proofs.Common.{◌≡◌, ℕ, suc, ◌+◌, ◌-◌, ◌<◌, ◌≤◌, List, [], ◌∷◌, length}
use Rattle.std.proofs.Common.{drop}
use Rattle.std.proofs.Common.{get_or, sym, ap, ◌∙◌, arith, sum, drop-cons, add-one}
use Rattle.std.proofs.lemmas.List.Sums.{sum_by-cons}
use Rattle.std.proofs.Common.{map}
use Rattle.dx_step.specs.Certainty.{share, shares, with_rest}
use Rattle.dx_step.proofs.Certain.{shares_few}

pub sum_first : (x : ℕ) (xs : List ℕ) → sum (x ∷ xs) ≡ x + sum xs
sum_first x xs = sum_by-cons (λ n. n) x xs

-- the rest of a list from a place on
pub sum_from : (xs : List ℕ) (at d : ℕ) → at < length xs
    → sum (drop at xs) ≡ get_or xs at d + sum (drop (at + 1) xs)
sum_from xs at d low =
    ap sum (drop-cons xs at d low) ∙ sum_first (get_or xs at d) (drop (suc at) xs)
    ∙ ap (λ n. get_or xs at d + sum (drop n xs)) (sym (add-one at))

rest_sum : (left : ℕ) (x : ℕ) (xs : List ℕ) → sum (with_rest left (x ∷ xs)) ≡ sum (x ∷ xs) + left
rest_sum left x xs =
    sum_first (x + left) xs ∙ (let all = sum_first x xs in omega arith)

few_by : (xs : List ℕ) → (0 < length xs → sum (with_rest (100 - sum xs) xs) ≡ 100)
    → sum xs ≤ 100
few_by [] h = omega arith
few_by (x ∷ xs) h =
    let all = h (omega arith) in
    let same = rest_sum (100 - sum (x ∷ xs)) x xs in
    omega arith

-- the shares of rates, where their total is the sum
pub shares_low : (rates : List ℕ) (total : ℕ) (items : List ℕ) → total ≡ sum rates
    → items ≡ map (share total) rates → sum items ≤ 100
shares_low rates total items h k =
    let same : sum items ≡ sum (shares rates) =
    ap sum (k ∙ ap (λ n. map (share n) rates) h) in
    let few = shares_few rates in
    omega arith
