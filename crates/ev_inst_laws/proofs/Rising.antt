-- Lists that ascend by an order and have the same items are one.
use Rattle.std.proofs.Common.{◌≡◌, ℕ, zero, suc, Bool, true, List, [], ◌∷◌, length, slice_get}
use Rattle.std.proofs.Common.{Some, refl, sym, subst, arith}
use Rattle.std.proofs.lemmas.Bool.{and_parts}
use Rattle.std.proofs.lemmas.Option.{same_Some}
use Rattle.ev_incidence.specs.Sets.{ascends_by}
use Rattle.ev_events.proofs.Places.{none_is_not}

-- each item of the one stands in the other
abbrev pub AreWithin : {X : Type 0} → List X → List X → Type 0
AreWithin {X = X} xs ys =
    (i : ℕ) (x : X) → slice_get xs i ≡ Some x → (j : ℕ) × (slice_get ys j ≡ Some x)

module _ {X : Type 0} (before : X → X → Bool)
    (trans : (a b c : X) → before a b ≡ true → before b c ≡ true → before a c ≡ true)
    (never : (a : X) → before a a ≡ true → ⊥) where
  rest_ascends : (x : X) (xs : List X) → ascends_by before (x ∷ xs) ≡ true
      → ascends_by before xs ≡ true
  rest_ascends x [] h = refl
  rest_ascends x (y ∷ ys) h = (and_parts (before x y) (ascends_by before (y ∷ ys)) h).1

  first_before : (x : X) (xs : List X) (k : ℕ) (y : X) → ascends_by before (x ∷ xs) ≡ true
      → slice_get xs k ≡ Some y → before x y ≡ true
  first_before x [] k y h s = none_is_not y s
  first_before x (z ∷ zs) zero y h s =
      subst (λ (w : X). before x w ≡ true) (same_Some z y s)
      (and_parts (before x z) (ascends_by before (z ∷ zs)) h).0
  first_before x (z ∷ zs) (suc k) y h s =
      let p = and_parts (before x z) (ascends_by before (z ∷ zs)) h in
      trans x z y p.0 (first_before z zs k y p.1 s)

  first_one : (x y : X) (xs ys : List X) → ascends_by before (x ∷ xs) ≡ true
      → ascends_by before (y ∷ ys) ≡ true → (i : ℕ) → slice_get (y ∷ ys) i ≡ Some x
      → (j : ℕ) → slice_get (x ∷ xs) j ≡ Some y → x ≡ y
  first_one x y xs ys h k zero s j t = sym (same_Some y x s)
  first_one x y xs ys h k (suc i) s zero t = same_Some x y t
  first_one x y xs ys h k (suc i) s (suc j) t =
      absurd (never x (trans x y x (first_before x xs j y h t) (first_before y ys i x k s)))

  rest_within : (x : X) (xs ys : List X) → ascends_by before (x ∷ xs) ≡ true
      → AreWithin (x ∷ xs) (x ∷ ys) → AreWithin xs ys
  rest_within x xs ys h within =
      λ i z s. let found = within (suc i) z s in by i z s found.0 found.1
    where
      by : (i : ℕ) (z : X) → slice_get xs i ≡ Some z → (j : ℕ) → slice_get (x ∷ ys) j ≡ Some z
          → (k : ℕ) × (slice_get ys k ≡ Some z)
      by i z s zero t =
          absurd (never x (subst (λ (w : X). before x w ≡ true) (sym (same_Some x z t))
          (first_before x xs i z h s)))
      by i z s (suc j) t = (j, t)

  pub one_list : (xs ys : List X) → ascends_by before xs ≡ true → ascends_by before ys ≡ true
      → AreWithin xs ys → AreWithin ys xs → xs ≡ ys
  one_list [] [] h k own other = refl
  one_list [] (y ∷ ys) h k own other = none_is_not y (other 0 y refl).1
  one_list (x ∷ xs) [] h k own other = none_is_not x (own 0 x refl).1
  one_list (x ∷ xs) (y ∷ ys) h k own other =
      let mine = own 0 x refl in
      let theirs = other 0 y refl in
      let first : x ≡ y = first_one x y xs ys h k mine.0 mine.1 theirs.0 theirs.1 in
      let one : AreWithin xs ys = rest_within x xs ys h
      (subst (λ (w : X). AreWithin (x ∷ xs) (w ∷ ys)) (sym first) own) in
      let two : AreWithin ys xs = rest_within y ys xs k
      (subst (λ (w : X). AreWithin (y ∷ ys) (w ∷ xs)) first other) in
      let more = one_list xs ys (rest_ascends x xs h) (rest_ascends y ys k) one two in
      λ i. first i ∷ more i

-- lists of one length, whose items are the same at each place, are one
pub same_items : {X : Type 0} (xs ys : List X) → length xs ≡ length ys
    → ((i : ℕ) (x y : X) → slice_get xs i ≡ Some x → slice_get ys i ≡ Some y → x ≡ y) → xs ≡ ys
same_items [] [] e h = refl
same_items [] (y ∷ ys) e h = absurd (omega (arith, e))
same_items (x ∷ xs) [] e h = absurd (omega (arith, e))
same_items (x ∷ xs) (y ∷ ys) e h =
    let first : x ≡ y = h 0 x y refl refl in
    let more = same_items xs ys (omega (arith, e)) (λ i a b s t. h (suc i) a b s t) in
    λ i. first i ∷ more i
