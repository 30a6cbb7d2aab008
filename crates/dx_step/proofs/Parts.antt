-- Lists with an item that stays, changes, goes or comes.
use Rattle.std.proofs.Common.{◌≡◌, ℕ, zero, suc, ◌<◌, ◌≤◌, ◌==◌, Bool, true, false, not, ◌&&◌, ◌||◌}
use Rattle.std.proofs.Common.{nat_lt, IsTrue, List, [], ◌∷◌, ◌++◌, length, map, refl, sym, ap, ◌∙◌}
use Rattle.std.proofs.Common.{arith, Some, slice_get, slice_set, if◌then◌else◌}
use Rattle.std.specs.Prelude.{remove}
use Rattle.std.specs.List.{list_all, AllByRecursion}
use Rattle.std.proofs.lemmas.Bool.{and_from, and_parts}
use Rattle.std.proofs.lemmas.Bool.Decides.{nat_tests}
use Rattle.std.proofs.lemmas.List.Folds.{list_all-append, list_all-map}
use Rattle.ev_incidence.specs.Sets.{is_member}
use Rattle.dx_explain.specs.Cases.{inserted}
use Rattle.dx_state.proofs.Lists.{all_other, is_strict}

-- the item at a place, with what stands before and after it
pub record IsParted {X : Type 0} (xs : List X) (at : ℕ) (x : X) : Type 0 where
  pub before : List X
  pub after : List X
  pub whole : xs ≡ before ++ x ∷ after
  pub removed : remove xs at ≡ before ++ after
  pub replaced : (y : X) → slice_set xs at y ≡ before ++ y ∷ after

pub parted : {X : Type 0} (xs : List X) (at : ℕ) (x : X) → slice_get xs at ≡ Some x
    → IsParted xs at x
parted [] at x h = absurd (let never : ⊥ = cc in never)
parted (y ∷ ys) zero x h =
    let same : y ≡ x = cc in
    record {
      before = [];
      after = ys;
      whole = ap (λ z. z ∷ ys) same;
      removed = refl;
      replaced = λ z. refl;
    }
parted (y ∷ ys) (suc at) x h =
    let rest = parted ys at x h in
    record {
      before = y ∷ rest.before;
      after = rest.after;
      whole = ap (λ zs. y ∷ zs) rest.whole;
      removed = ap (λ zs. y ∷ zs) rest.removed;
      replaced = λ z. ap (λ zs. y ∷ zs) (rest.replaced z);
    }

pub all_front : {X : Type 0} (p : X → Bool) (xs ys : List X) → IsTrue (list_all p (xs ++ ys))
    → IsTrue (list_all p xs)
all_front p xs ys h =
    (and_parts (list_all p xs) (list_all p ys) (sym (list_all-append p xs ys) ∙ h)).0

pub all_back : {X : Type 0} (p : X → Bool) (xs ys : List X) → IsTrue (list_all p (xs ++ ys))
    → IsTrue (list_all p ys)
all_back p xs ys h =
    (and_parts (list_all p xs) (list_all p ys) (sym (list_all-append p xs ys) ∙ h)).1

pub all_joined : {X : Type 0} (p : X → Bool) (xs ys : List X) → IsTrue (list_all p xs)
    → IsTrue (list_all p ys) → IsTrue (list_all p (xs ++ ys))
all_joined p xs ys h k =
    list_all-append p xs ys ∙ and_from (list_all p xs) (list_all p ys) h k

pub all_one : {X : Type 0} (p : X → Bool) (x : X) → IsTrue (p x) → IsTrue (list_all p (x ∷ []))
all_one p x h = and_from (p x) true h refl

pub all_middle : {X : Type 0} (p : X → Bool) (xs ys : List X) (x : X)
    → IsTrue (list_all p (xs ++ x ∷ ys)) → IsTrue (p x)
all_middle p xs ys x h = (and_parts (p x) (list_all p ys) (all_back p xs (x ∷ ys) h)).0

pub all_less : {X : Type 0} (p : X → Bool) (xs ys : List X) (x : X)
    → IsTrue (list_all p (xs ++ x ∷ ys)) → IsTrue (list_all p (xs ++ ys))
all_less p xs ys x h =
    all_joined p xs ys (all_front p xs (x ∷ ys) h)
    (and_parts (p x) (list_all p ys) (all_back p xs (x ∷ ys) h)).1

pub all_instead : {X : Type 0} (p : X → Bool) (xs ys : List X) (x y : X)
    → IsTrue (list_all p (xs ++ x ∷ ys)) → IsTrue (p y) → IsTrue (list_all p (xs ++ y ∷ ys))
all_instead p xs ys x y h k =
    all_joined p xs (y ∷ ys) (all_front p xs (x ∷ ys) h)
    (and_from (p y) (list_all p ys) k
    (and_parts (p x) (list_all p ys) (all_back p xs (x ∷ ys) h)).1)

pub by_push : {X : Type 0} (P : X → Type 0) (xs : List X) (x : X) → AllByRecursion P xs → P x
    → AllByRecursion P (xs ++ x ∷ [])
by_push P [] x h k = (k, tt)
by_push P (y ∷ ys) x h k = (h.0, by_push P ys x h.1 k)

pub by_joined : {X : Type 0} (P : X → Type 0) (xs ys : List X) → AllByRecursion P xs
    → AllByRecursion P ys → AllByRecursion P (xs ++ ys)
by_joined P [] ys h k = k
by_joined P (x ∷ xs) ys h k = (h.0, by_joined P xs ys h.1 k)

-- no number is this one
abbrev pub lacks : List ℕ → ℕ → Bool
lacks ys n = list_all (λ m. not (m == n)) ys

not_or : (a b : Bool) → not (a || b) ≡ (not a && not b)
not_or true b = refl
not_or false b = refl

pub lacks_is : (ys : List ℕ) (n : ℕ) → not (is_member ys n) ≡ lacks ys n
lacks_is [] n = refl
lacks_is (y ∷ ys) n =
    not_or (y == n) (is_member ys n) ∙ ap (λ (b : Bool). not (y == n) && b) (lacks_is ys n)

pub differs_above : (n m : ℕ) → IsTrue (nat_lt n m) → IsTrue (not (m == n))
differs_above n m h = grind (arith, nat_tests)

pub differs_below : (n m : ℕ) → IsTrue (nat_lt m n) → IsTrue (not (m == n))
differs_below n m h = grind (arith, nat_tests)

pub differs_back : (n m : ℕ) → IsTrue (not (m == n)) → IsTrue (not (n == m))
differs_back n m h = grind (arith, nat_tests)

-- numbers in order without one of them
pub record IsWithout (xs ys : List ℕ) (n : ℕ) : Type 0 where
  pub strict : IsTrue (is_strict (xs ++ ys))
  pub lacking : IsTrue (lacks (xs ++ ys) n)

pub strict_less : (xs ys : List ℕ) (n : ℕ) → IsTrue (is_strict (xs ++ n ∷ ys))
    → IsWithout xs ys n
strict_less [] ys n h =
    let parts = and_parts (list_all (nat_lt n) ys) (is_strict ys) h in
    record {
      strict = parts.1;
      lacking = all_other (nat_lt n) (λ m. not (m == n)) (λ m k. differs_above n m k) ys parts.0;
    }
strict_less (x ∷ xs) ys n h =
    let parts = and_parts (list_all (nat_lt x) (xs ++ n ∷ ys)) (is_strict (xs ++ n ∷ ys)) h in
    let rest = strict_less xs ys n parts.1 in
    record {
      strict = and_from (list_all (nat_lt x) (xs ++ ys)) (is_strict (xs ++ ys))
          (all_less (nat_lt x) xs ys n parts.0) rest.strict;
      lacking = and_from (not (x == n)) (lacks (xs ++ ys) n)
          (differs_below n x (all_middle (nat_lt x) xs ys n parts.0)) rest.lacking;
    }

-- an item comes in its place
pub inserted_all : {X : Type 0} (before : X → X → Bool) (p : X → Bool) (x : X) (xs : List X)
    → IsTrue (p x) → IsTrue (list_all p xs) → IsTrue (list_all p (inserted before x xs))
inserted_all before p x [] h k = and_from (p x) true h refl
inserted_all before p x (y ∷ ys) h k =
    let parts = and_parts (p y) (list_all p ys) k in
    let later = inserted_all before p x ys h parts.1 in
    elim (before x y) as (λ (b : Bool). IsTrue (list_all p
    (if b then x ∷ y ∷ ys else (if before y x then y ∷ inserted before x ys else y ∷ ys)))) [
      | true ↦ and_from (p x) (list_all p (y ∷ ys)) h k
      | false ↦
          elim (before y x) as (λ (b : Bool). IsTrue (list_all p
          (if b then y ∷ inserted before x ys else y ∷ ys))) [
            | true ↦ and_from (p y) (list_all p (inserted before x ys)) parts.0 later
            | false ↦ k
          ]
    ]

-- by a number of each item, a list in order stays in order
abbrev by_number : {X : Type 0} → (X → ℕ) → X → X → Bool
by_number f a b = nat_lt (f a) (f b)

pub inserted_strict : {X : Type 0} (f : X → ℕ) (x : X) (xs : List X)
    → IsTrue (is_strict (map f xs))
    → IsTrue (is_strict (map f (inserted (λ a b. nat_lt (f a) (f b)) x xs)))
inserted_strict f x [] h = refl
inserted_strict f x (y ∷ ys) h =
    let parts = and_parts (list_all (nat_lt (f y)) (map f ys)) (is_strict (map f ys)) h in
    let later = inserted_strict f x ys parts.1 in
    elim (nat_lt (f x) (f y)) as (λ (b : Bool). nat_lt (f x) (f y) ≡ b → IsTrue (is_strict (map f
    (if b then x ∷ y ∷ ys else (if nat_lt (f y) (f x) then y ∷ inserted (by_number f) x ys
    else y ∷ ys))))) [
      | true ↦ λ is.
          and_from (nat_lt (f x) (f y) && list_all (nat_lt (f x)) (map f ys)) _
          (and_from (nat_lt (f x) (f y)) _ is
          (all_other (nat_lt (f y)) (nat_lt (f x)) (λ z k. grind (arith, nat_tests)) (map f ys)
          parts.0)) h
      | false ↦ λ is.
          elim (nat_lt (f y) (f x)) as (λ (b : Bool). nat_lt (f y) (f x) ≡ b
          → IsTrue (is_strict (map f (if b then y ∷ inserted (by_number f) x ys else y ∷ ys)))) [
            | true ↦ λ low.
                and_from (list_all (nat_lt (f y)) (map f (inserted (by_number f) x ys))) _
                (list_all-map (nat_lt (f y)) f (inserted (by_number f) x ys)
                ∙ inserted_all (by_number f) (λ z. nat_lt (f y) (f z)) x ys low
                (sym (list_all-map (nat_lt (f y)) f ys) ∙ parts.0)) later
            | false ↦ λ high. h
          ] refl
    ] refl

pub inserted_few : {X : Type 0} (before : X → X → Bool) (x : X) (xs : List X)
    → length (inserted before x xs) ≤ suc (length xs)
inserted_few before x [] = omega arith
inserted_few before x (y ∷ ys) =
    let later = inserted_few before x ys in
    elim (before x y) as (λ (b : Bool). length
    (if b then x ∷ y ∷ ys else (if before y x then y ∷ inserted before x ys else y ∷ ys))
    ≤ suc (length (y ∷ ys))) [
      | true ↦ omega arith
      | false ↦
          elim (before y x) as (λ (b : Bool). length
          (if b then y ∷ inserted before x ys else y ∷ ys) ≤ suc (length (y ∷ ys))) [
            | true ↦ omega arith
            | false ↦ omega arith
          ]
    ]

pub inserted_some : {X : Type 0} (before : X → X → Bool) (x : X) (xs : List X)
    → 0 < length (inserted before x xs)
inserted_some before x [] = omega arith
inserted_some before x (y ∷ ys) =
    elim (before x y) as (λ (b : Bool). 0 < length
    (if b then x ∷ y ∷ ys else (if before y x then y ∷ inserted before x ys else y ∷ ys))) [
      | true ↦ omega arith
      | false ↦
          elim (before y x) as (λ (b : Bool). 0 < length
          (if b then y ∷ inserted before x ys else y ∷ ys)) [
            | true ↦ omega arith
            | false ↦ omega arith
          ]
    ]
