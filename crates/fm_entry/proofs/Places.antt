-- The first byte of a list that passes a test, by its place.
use Rattle.std.proofs.Common.{◌≡◌, ℕ, ◌<◌, ◌≤◌, ◌-◌, List, Bool, true, false, cond, length}
use Rattle.std.proofs.Common.{length-drop, position, Some, None, refl, sym, ap, ◌∙◌, arith, take}
use Rattle.std.proofs.Common.{drop, nat_lt}
use Rattle.std.specs.List.{position_or_len}
use Rattle.std.proofs.Math.Seq.{take-length}
use Rattle.std.proofs.lemmas.Bool.{ltb-true, ltb-false}
use Rattle.std.proofs.lemmas.Option.{cond_some}

-- where no place is found, there is none before the end
pub place_none : (p : ℕ → Bool) (xs : List ℕ) → position p xs ≡ None
    → length xs ≤ position_or_len p xs
place_none p xs none =
    elim (nat_lt (position_or_len p xs) (length xs)) as
    (λ t. nat_lt (position_or_len p xs) (length xs) ≡ t
    → cond t (Some (position_or_len p xs)) None ≡ None → length xs ≤ position_or_len p xs) [
      | true ↦ λ e some. cc
      | false ↦ λ e same. ltb-false (position_or_len p xs) (length xs) e
    ] refl none

-- the place that is found is that of the first byte that passes
pub place_is : (p : ℕ → Bool) (xs : List ℕ) (at : ℕ) → position p xs ≡ Some at
    → (position_or_len p xs ≡ at) × (at < length xs)
place_is p xs at found =
    let (b, e) = cond_some (nat_lt (position_or_len p xs) (length xs)) (position_or_len p xs) at
    found in
    let below : position_or_len p xs < length xs = ltb-true (position_or_len p xs) (length xs) b in
    (e, omega arith)

-- the rest of a list is all of the rest
pub drop_whole : (n : ℕ) (line : List ℕ) → take (length line - n) (drop n line) ≡ drop n line
drop_whole n line = ap (λ m. take m (drop n line)) (sym (length-drop n line))
    ∙ take-length (drop n line)
