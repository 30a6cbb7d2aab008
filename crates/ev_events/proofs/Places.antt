-- Items of lists by their places.
use Rattle.std.proofs.Common.{◌≡◌, ◌<◌, ◌+◌, ◌||◌, ℕ, zero, suc, Bool, true, false, not, cond}
use Rattle.std.proofs.Common.{List, [], ◌∷◌, length, map, zip, slice_get, slice_index, position}
use Rattle.std.proofs.Common.{Option, Some, None, refl, sym, ap, ◌∙◌, subst, arith, inl, inr}
use Rattle.std.specs.List.{list_all, list_any, position_or_len}
use Rattle.std.proofs.lemmas.Bool.{false≢true, eqb-true, eq-eqb, lt-ltb, cases_Bool}
use Rattle.std.proofs.lemmas.Option.{same_Some}
use Rattle.fm_bytes.proofs.Booleans.{and_parts, and_true}
use Rattle.ev_events.specs.Fits.{is_that}

pub none_is_not : {X : Type 0} {T : Type 0} (x : X) → ◌≡◌ {A = Option X} None (Some x) → T
none_is_not x h = absurd (let bad : ⊥ = cc in bad)

pub same_tests : (a b : Bool) → (a ≡ true → b ≡ true) → (b ≡ true → a ≡ true) → a ≡ b
same_tests true b on back = sym (on refl)
same_tests false true on back = back refl
same_tests false false on back = refl

-- ---- numbers that are there
pub that_is : (o : Option ℕ) (x : ℕ) → is_that o x ≡ true → o ≡ Some x
that_is None x h = absurd (false≢true h)
that_is (Some y) x h = ap Some (eqb-true y x h)

pub is_that_from : (o : Option ℕ) (x : ℕ) → o ≡ Some x → is_that o x ≡ true
is_that_from None x h = none_is_not x h
is_that_from (Some y) x h = eq-eqb y x (same_Some y x h)

-- ---- places within a list
pub there_is : {X : Type 0} (xs : List X) (i : ℕ) → i < length xs
    → (x : X) × (slice_get xs i ≡ Some x)
there_is [] i h = absurd (omega (arith, h))
there_is (x ∷ xs) zero h = (x, refl)
there_is (x ∷ xs) (suc i) h = there_is xs i (omega (arith, h))

pub within_is : {X : Type 0} (xs : List X) (i : ℕ) (x : X) → slice_get xs i ≡ Some x → i < length xs
within_is [] i x h = none_is_not x h
within_is (y ∷ xs) zero x h = omega arith
within_is (y ∷ xs) (suc i) x h = let less = within_is xs i x h in omega (arith, less)

pub index_is : (xs : List ℕ) (i x : ℕ) → slice_get xs i ≡ Some x → slice_index xs i ≡ x
index_is [] i x h = none_is_not x h
index_is (y ∷ xs) zero x h = same_Some y x h
index_is (y ∷ xs) (suc i) x h = index_is xs i x h

pub get_is : (xs : List ℕ) (i x : ℕ) → i < length xs → slice_index xs i ≡ x
    → slice_get xs i ≡ Some x
get_is xs i x less h =
    let y = there_is xs i less in
    y.1 ∙ ap Some (sym (index_is xs i y.0 y.1) ∙ h)

pub map_there : {X Y : Type 0} (f : X → Y) (xs : List X) (j : ℕ) (x : X) → slice_get xs j ≡ Some x
    → slice_get (map f xs) j ≡ Some (f x)
map_there f [] j x at = none_is_not x at
map_there f (y ∷ xs) zero x at = ap (λ z. Some (f z)) (same_Some y x at)
map_there f (y ∷ xs) (suc j) x at = map_there f xs j x at

pub get_map : {X Y : Type 0} (f : X → Y) (xs : List X) (i : ℕ) (y : Y)
    → slice_get (map f xs) i ≡ Some y → (x : X) × (slice_get xs i ≡ Some x) × (f x ≡ y)
get_map f [] i y h = none_is_not y h
get_map f (x ∷ xs) zero y h = (x, refl, same_Some (f x) y h)
get_map f (x ∷ xs) (suc i) y h = get_map f xs i y h

-- ---- tests of pairs
pub pairs_at : {X Y : Type 0} (f : X × Y → Bool) (xs : List X) (ys : List Y) (i : ℕ) (x : X) (y : Y)
    → list_all f (zip xs ys) ≡ true → slice_get xs i ≡ Some x → slice_get ys i ≡ Some y
    → f (x, y) ≡ true
pairs_at f [] ys i x y h s t = none_is_not x s
pairs_at f (a ∷ xs) [] i x y h s t = none_is_not y t
pairs_at {X = X} {Y = Y} f (a ∷ xs) (b ∷ ys) zero x y h s t =
    let one = and_parts (f (a, b)) _ h in
    let left = same_Some a x s in
    let right = same_Some b y t in
    subst (λ (p : X × Y). f p ≡ true) (λ i. (left i, right i)) one.0
pairs_at f (a ∷ xs) (b ∷ ys) (suc i) x y h s t =
    pairs_at f xs ys i x y (and_parts (f (a, b)) _ h).1 s t

pub pairs_from : {X Y : Type 0} (f : X × Y → Bool) (xs : List X) (ys : List Y)
    → ((i : ℕ) (x : X) (y : Y) → slice_get xs i ≡ Some x → slice_get ys i ≡ Some y
    → f (x, y) ≡ true)
    → list_all f (zip xs ys) ≡ true
pairs_from f [] ys h = refl
pairs_from f (x ∷ xs) [] h = refl
pairs_from f (x ∷ xs) (y ∷ ys) h =
    and_true (f (x, y)) _ (h 0 x y refl refl) (pairs_from f xs ys (λ i a b s t. h (suc i) a b s t))

-- ---- the first place that passes a test
pub first_is : {X : Type 0} (test : X → Bool) (x : X) (xs : List X) (b : Bool) → test x ≡ b
    → position_or_len test (x ∷ xs) ≡ cond (not b) (1 + position_or_len test xs) 0
first_is test x xs b e = ap (λ (t : Bool). cond (not t) (1 + position_or_len test xs) 0) e

first_within : {X : Type 0} (test : X → Bool) (xs : List X) (i : ℕ) (x : X)
    → slice_get xs i ≡ Some x → test x ≡ true → position_or_len test xs < length xs
first_within test [] i x s t = none_is_not x s
first_within test (y ∷ xs) zero x s t =
    let e = first_is test y xs true (ap test (same_Some y x s) ∙ t) in omega (arith, e)
first_within test (y ∷ xs) (suc i) x s t = elim (cases_Bool (test y)) [
  | inl so ↦ let e = first_is test y xs true so in omega (arith, e)
  | inr not_so ↦
      let e = first_is test y xs false not_so in
      let more = first_within test xs i x s t in omega (arith, e, more)
]

pub first_item : {X : Type 0} (test : X → Bool) (xs : List X) → position_or_len test xs < length xs
    → (x : X) × (slice_get xs (position_or_len test xs) ≡ Some x) × (test x ≡ true)
first_item test [] h = absurd (omega (arith, h))
first_item test (y ∷ xs) h = elim (cases_Bool (test y)) [
  | inl so ↦
      let e = first_is test y xs true so in (y, ap (slice_get (y ∷ xs)) e, so)
  | inr not_so ↦
      let first = first_is test y xs false not_so in
      let e : position_or_len test (y ∷ xs) ≡ suc (position_or_len test xs) =
      omega (arith, first) in
      let more = first_item test xs (omega (arith, e, h)) in
      (more.0, ap (slice_get (y ∷ xs)) e ∙ more.1, more.2)
]

pub record FirstAt {X : Type 0} (test : X → Bool) (xs : List X) : Type 0 where
  pub place : ℕ
  pub item : X
  pub is : position test xs ≡ Some place
  pub stands : slice_get xs place ≡ Some item
  pub passes : test item ≡ true

pub first_found : {X : Type 0} (test : X → Bool) (xs : List X) (i : ℕ) (x : X)
    → slice_get xs i ≡ Some x → test x ≡ true → FirstAt test xs
first_found test xs i x s t =
    let less = first_within test xs i x s t in
    let found = first_item test xs less in
    record {
      place = position_or_len test xs;
      item = found.0;
      is = ap (λ (b : Bool). cond b (Some (position_or_len test xs)) None)
          (lt-ltb (position_or_len test xs) (length xs) less);
      stands = found.1;
      passes = found.2;
    }

pub any_found : {X : Type 0} (test : X → Bool) (xs : List X) → list_any test xs ≡ true
    → (i : ℕ) × (x : X) × (slice_get xs i ≡ Some x) × (test x ≡ true)
any_found test [] h = absurd (false≢true h)
any_found test (x ∷ xs) h = elim (cases_Bool (test x)) [
  | inl so ↦ (0, x, refl, so)
  | inr not_so ↦
      let more = any_found test xs (sym (ap (λ (b : Bool). b || list_any test xs) not_so) ∙ h) in
      (suc more.0, more.1, more.2, more.3)
]
