-- A list in which nothing stands twice, and all of which stands in another list, weighs no more
-- than that.
use Rattle.std.proofs.Common.{◌≡◌, ℕ, zero, suc, ◌+◌, ◌≤◌, List, [], ◌∷◌, length, slice_get, Some}
use Rattle.std.proofs.Common.{refl, sym, ◌∙◌, ap, arith}
use Rattle.std.proofs.lemmas.List.Sums.{sum_by-cons}
use Rattle.std.proofs.lemmas.Option.{same_Some}
use Rattle.std.specs.List.{sum_by}
use Rattle.ev_events.proofs.Places.{none_is_not}

-- nothing stands twice
abbrev pub StandOnce : {X : Type 0} → List X → Type 0
StandOnce {X = X} xs =
    (i j : ℕ) (x : X) → slice_get xs i ≡ Some x → slice_get xs j ≡ Some x → i ≡ j

-- each item of the one stands in the other
abbrev pub StandIn : {X : Type 0} → List X → List X → Type 0
StandIn {X = X} xs ys =
    (i : ℕ) (x : X) → slice_get xs i ≡ Some x → (j : ℕ) × (slice_get ys j ≡ Some x)

-- what is left of a list without the item at a place
abbrev without : {X : Type 0} → ℕ → List X → List X
without j [] = []
without zero (y ∷ ys) = ys
without (suc j) (y ∷ ys) = y ∷ without j ys

stays : {X : Type 0} (j k : ℕ) (ys : List X) (z : X) → slice_get ys k ≡ Some z → (k ≡ j → ⊥)
    → (m : ℕ) × (slice_get (without j ys) m ≡ Some z)
stays j k [] z at other = none_is_not z at
stays zero zero (y ∷ ys) z at other = absurd (other refl)
stays zero (suc k) (y ∷ ys) z at other = (k, at)
stays (suc j) zero (y ∷ ys) z at other = (0, at)
stays (suc j) (suc k) (y ∷ ys) z at other =
    let there = stays j k ys z at (λ e. other (ap suc e)) in (suc there.0, there.1)

module _ {X : Type 0} (f : X → ℕ) where
  weight_without : (j : ℕ) (ys : List X) (x : X) → slice_get ys j ≡ Some x
      → sum_by f ys ≡ f x + sum_by f (without j ys)
  weight_without j [] x at = none_is_not x at
  weight_without zero (y ∷ ys) x at =
      sum_by-cons f y ys ∙ ap (λ (z : X). f z + sum_by f ys) (same_Some y x at)
  weight_without (suc j) (y ∷ ys) x at =
      omega (
        arith,
        sum_by-cons f y ys,
        weight_without j ys x at,
        sum_by-cons f y (without j ys),
      )

  rest_in : (x : X) (xs ys : List X) (j : ℕ) → StandOnce (x ∷ xs) → StandIn (x ∷ xs) ys
      → slice_get ys j ≡ Some x → StandIn xs (without j ys)
  rest_in x xs ys j once within at i z there =
      let found = within (suc i) z there in
      stays j found.0 ys z found.1
      (λ e.
      let same : x ≡ z =
      same_Some x z (sym at ∙ ap (λ (k : ℕ). slice_get ys k) (sym e) ∙ found.1) in
      let twice : 0 ≡ suc i = once 0 (suc i) z (ap Some same) there in
      omega (arith, twice))

  pub weighs_less : (xs ys : List X) → StandOnce xs → StandIn xs ys → sum_by f xs ≤ sum_by f ys
  weighs_less [] ys once within = omega arith
  weighs_less (x ∷ xs) ys once within =
      let first = within 0 x refl in
      omega (
        arith,
        sum_by-cons f x xs,
        weight_without first.0 ys x first.1,
        weighs_less xs (without first.0 ys)
            (λ i j z s t. let one : suc i ≡ suc j = once (suc i) (suc j) z s t in
            omega (arith, one))
            (rest_in x xs ys first.0 once within first.1),
      )

ones : {X : Type 0} (xs : List X) → sum_by (λ (x : X). 1) xs ≡ length xs
ones [] = refl
ones {X = X} (x ∷ xs) = omega (arith, sum_by-cons (λ (y : X). 1) x xs, ones xs)

-- so it is no longer
pub no_longer : {X : Type 0} (xs ys : List X) → StandOnce xs → StandIn xs ys
    → length xs ≤ length ys
no_longer {X = X} xs ys once within =
    omega (arith, ones xs, ones ys, weighs_less (λ (x : X). 1) xs ys once within)
