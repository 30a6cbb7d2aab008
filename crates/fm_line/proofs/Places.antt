-- The first byte of a list that passes a test, by its place.
use Rattle.std.proofs.Common.{◌≡◌, ℕ, ◌+◌, ◌<◌, ◌≤◌, ◌++◌, ◌∷◌, List, Bool, true, false, length}
use Rattle.std.proofs.Common.{position, Some, None, ap, ◌∙◌, subst, arith, take, drop, get_or}
use Rattle.std.proofs.Common.{get_or-take, length-take, add-one}
use Rattle.std.specs.List.{All, position_or_len}
use Rattle.std.proofs.Math.Seq.{split_at}
use Rattle.std.proofs.lemmas.List.Sums.{fails_before_first, passes_at_first}
use Rattle.fm_entry.proofs.Places.{place_none, place_is}

-- where no place is found, no byte passes
pub fails_all : (p : ℕ → Bool) (xs : List ℕ) → position p xs ≡ None → All (λ b. p b ≡ false) xs
fails_all p xs none k d below =
    let past : length xs ≤ position_or_len p xs = place_none p xs none in
    fails_before_first p xs k d (omega arith)

pub fails_before : (p : ℕ → Bool) (xs : List ℕ) (at : ℕ) → position p xs ≡ Some at
    → All (λ b. p b ≡ false) (take at xs)
fails_before p xs at found k d below =
    let place = place_is p xs at found in
    let early : k < position_or_len p xs = omega (arith, length-take at xs, place.0, place.1) in
    ap p (get_or-take at xs k d (omega arith)) ∙ fails_before_first p xs k d early

pub passes_at : (p : ℕ → Bool) (xs : List ℕ) (at : ℕ) → position p xs ≡ Some at
    → p (get_or xs at 0) ≡ true
passes_at p xs at found =
    let place = place_is p xs at found in
    subst (λ n. p (get_or xs n 0) ≡ true) place.0
    (passes_at_first p xs 0 (omega (arith, place.0, place.1)))

-- the list is what stands before that byte, the byte, and what stands after it
pub parts_at : (p : ℕ → Bool) (xs : List ℕ) (at : ℕ) → position p xs ≡ Some at
    → xs ≡ take at xs ++ (get_or xs at 0 ∷ drop (at + 1) xs)
parts_at p xs at found = rw add-one (split_at xs at 0 (place_is p xs at found).1)
