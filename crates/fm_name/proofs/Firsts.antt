-- What stands before the first element that passes.
use Rattle.std.proofs.Common.{◌≡◌, ◌<◌, ◌≤◌, ◌+◌, ℕ, Bool, List, length, take, drop, Some, None}
use Rattle.std.proofs.Common.{ap, sym, arith, not}
use Rattle.std.specs.List.{position, position_or_len, before_first, after_first}
use Rattle.std.proofs.lemmas.List.Sums.{prefix_len-le-length}
use Rattle.std.proofs.lemmas.Grind.{common_steps}
use Rattle.std.proofs.lemmas.List.{take_all}

-- where one passes, it is at that place
pub before_some : (p : ℕ → Bool) (xs : List ℕ) (at : ℕ) → position p xs ≡ Some at
    → take at xs ≡ before_first p xs
before_some p xs at e =
    let same : position_or_len p xs ≡ at = grind (arith, common_steps) in
    ap (λ n. take n xs) (sym same)

-- where none passes, all stands before
pub before_none : (p : ℕ → Bool) (xs : List ℕ) → position p xs ≡ None → xs ≡ before_first p xs
before_none p xs e =
    let past : length xs ≤ position_or_len p xs = grind (arith, common_steps) in
    sym (take_all (position_or_len p xs) xs past)

-- what stands behind that place
pub after_some : (p : ℕ → Bool) (xs : List ℕ) (at : ℕ) → position p xs ≡ Some at
    → drop (at + 1) xs ≡ after_first p xs
after_some p xs at e =
    let same : position_or_len p xs ≡ at = grind (arith, common_steps) in
    ap (λ n. drop (n + 1) xs) (sym same)

-- the place is one of the list
pub place_some : (p : ℕ → Bool) (xs : List ℕ) (at : ℕ) → position p xs ≡ Some at
    → position_or_len p xs < length xs
place_some p xs at e = grind (arith, common_steps)

-- where none passes, there is no place
pub place_none : (p : ℕ → Bool) (xs : List ℕ) → position p xs ≡ None
    → position_or_len p xs ≡ length xs
place_none p xs e =
    let past : length xs ≤ position_or_len p xs = grind (arith, common_steps) in
    let most : position_or_len p xs ≤ length xs = prefix_len-le-length (λ x. not (p x)) xs in
    omega (arith, past, most)
