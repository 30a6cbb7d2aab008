-- Lists whose items ascend.
use Rattle.std.proofs.Common.{◌≡◌, ◌+◌, ◌<◌, ℕ, zero, suc, Bool, true, false, List}
use Rattle.std.proofs.Common.{[], ◌∷◌, length, get_or, refl, sym, ap, subst, ◌∙◌, arith, add-one}
use Rattle.std.proofs.Common.{ltb}
use Rattle.std.specs.List.{IsAllAdjacentAnswer}
use Rattle.std.proofs.lemmas.Bool.{and_from, and_parts, and_left, and_right, ltb-true, lt-ltb}
use Rattle.ev_incidence.specs.Sets.{ascends_by, ascends}

module _ {X : Type 0} (before : X → X → Bool) where
  pub ascends_passes : (xs : List X)
      → ((i j : ℕ) (d : X) → j ≡ suc i → j < length xs
      → before (get_or xs i d) (get_or xs j d) ≡ true) → ascends_by before xs ≡ true
  ascends_passes [] h = refl
  ascends_passes (x ∷ []) h = refl
  ascends_passes (x ∷ y ∷ ys) h =
      and_from (before x y) (ascends_by before (y ∷ ys)) (h 0 1 x refl (omega arith))
      (ascends_passes (y ∷ ys) (λ i j d e l. h (suc i) (suc j) d (ap suc e) (omega arith)))

  pub ascends_fails : (xs : List X) (i j : ℕ) (d : X) → j ≡ suc i → j < length xs
      → before (get_or xs i d) (get_or xs j d) ≡ false → ascends_by before xs ≡ false
  ascends_fails [] i j d e l h = absurd (omega (arith, l))
  ascends_fails (x ∷ []) i j d e l h = absurd (omega (arith, e, l))
  ascends_fails (x ∷ y ∷ ys) zero j d e l h =
      and_left (before x y) (ascends_by before (y ∷ ys))
      (let P : ℕ → Type 0 = λ n. before x (get_or (x ∷ y ∷ ys) n d) ≡ false in subst P e h)
  ascends_fails (x ∷ y ∷ ys) (suc i) zero d e l h = absurd (omega (arith, e))
  ascends_fails (x ∷ y ∷ ys) (suc i) (suc j) d e l h =
      and_right (before x y) (ascends_by before (y ∷ ys))
      (ascends_fails (y ∷ ys) i j d (omega (arith, e)) (omega (arith, l)) h)

  pub ascends_is : (xs : List X) (r : Bool) → IsAllAdjacentAnswer (λ x y b. b ≡ before x y) xs r
      → r ≡ ascends_by before xs
  ascends_is xs true h = sym (ascends_passes xs (λ i j d e l.
      let P : ℕ → Type 0 = λ n. before (get_or xs i d) (get_or xs n d) ≡ true in
      subst P (sym (e ∙ sym (add-one i))) (sym (h i d (omega (arith, e, l))))))
  ascends_is xs false h = sym (first xs (h.0) (h.1) (h.2)) where
    first : (ys : List X) (k : ℕ) → k + 1 < length ys
        → ((d : X) → false ≡ before (get_or ys k d) (get_or ys (k + 1) d))
        → ascends_by before ys ≡ false
    first [] k l f = absurd (omega (arith, l))
    first (y ∷ ys) k l f = ascends_fails (y ∷ ys) k (k + 1) y (add-one k) l (sym (f y))

-- an earlier item is before a later one, where the order is one
module _ {X : Type 0} (before : X → X → Bool) (trans : (a b c : X) → before a b ≡ true
    → before b c ≡ true → before a c ≡ true) where
  head_before : (x : X) (xs : List X) (k : ℕ) (d : X) → ascends_by before (x ∷ xs) ≡ true
      → k < length xs → before x (get_or xs k d) ≡ true
  head_before x [] k d h l = absurd (omega (arith, l))
  head_before x (y ∷ ys) zero d h l = (and_parts (before x y) (ascends_by before (y ∷ ys)) h).0
  head_before x (y ∷ ys) (suc k) d h l =
      let p = and_parts (before x y) (ascends_by before (y ∷ ys)) h in
      trans x y (get_or ys k d) p.0 (head_before y ys k d p.1 (omega (arith, l)))

  tail_ascends : (x : X) (xs : List X) → ascends_by before (x ∷ xs) ≡ true
      → ascends_by before xs ≡ true
  tail_ascends x [] h = refl
  tail_ascends x (y ∷ ys) h = (and_parts (before x y) (ascends_by before (y ∷ ys)) h).1

  pub rises_by : (xs : List X) (i j : ℕ) (d : X) → ascends_by before xs ≡ true → i < j
      → j < length xs → before (get_or xs i d) (get_or xs j d) ≡ true
  rises_by [] i j d h l m = absurd (omega (arith, m))
  rises_by (x ∷ xs) zero zero d h l m = absurd (omega (arith, l))
  rises_by (x ∷ xs) (suc i) zero d h l m = absurd (omega (arith, l))
  rises_by (x ∷ xs) zero (suc j) d h l m = head_before x xs j d h (omega (arith, m))
  rises_by (x ∷ xs) (suc i) (suc j) d h l m =
      rises_by xs i j d (tail_ascends x xs h) (omega (arith, l)) (omega (arith, m))

-- an earlier number is below a later one
pub rises : (xs : List ℕ) (i j : ℕ) → ascends xs ≡ true → i < j → j < length xs
    → get_or xs i 0 < get_or xs j 0
rises xs i j h l m =
    ltb-true (get_or xs i 0) (get_or xs j 0)
    (rises_by ltb (λ a b c f g. lt-ltb a c (omega (arith, ltb-true a b f, ltb-true b c g))) xs i j 0
    h l m)
