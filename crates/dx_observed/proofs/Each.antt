-- Facts of each item of a list, where items come and go.
use Rattle.std.proofs.Common.{ℕ, Bool, true, false, IsTrue, List, [], ◌∷◌, ◌++◌, map, refl}
use Rattle.std.proofs.Common.{if◌then◌else◌}
use Rattle.std.specs.List.{list_all, AllByRecursion}
use Rattle.std.proofs.lemmas.Bool.{and_from, and_parts}
use Rattle.dx_explain.specs.Cases.{inserted}

pub each_less : {X : Type 0} (P : X → Type 0) (xs ys : List X) (x : X)
    → AllByRecursion P (xs ++ x ∷ ys) → AllByRecursion P (xs ++ ys)
each_less P [] ys x h = h.1
each_less P (y ∷ xs) ys x h = (h.0, each_less P xs ys x h.1)

pub each_middle : {X : Type 0} (P : X → Type 0) (xs ys : List X) (x : X)
    → AllByRecursion P (xs ++ x ∷ ys) → P x
each_middle P [] ys x h = h.0
each_middle P (y ∷ xs) ys x h = each_middle P xs ys x h.1

pub each_between : {X : Type 0} (P : X → Type 0) (xs ys : List X) (x : X)
    → AllByRecursion P (xs ++ ys) → P x → AllByRecursion P (xs ++ x ∷ ys)
each_between P [] ys x h k = (k, h)
each_between P (y ∷ xs) ys x h k = (h.0, each_between P xs ys x h.1 k)

-- of items that pass a test
pub each_with : {X : Type 0} (P Q : X → Type 0) (p : X → Bool) (xs : List X)
    → ((x : X) → P x → IsTrue (p x) → Q x) → AllByRecursion P xs → IsTrue (list_all p xs)
    → AllByRecursion Q xs
each_with P Q p [] f h k = tt
each_with P Q p (x ∷ xs) f h k =
    let parts = and_parts (p x) (list_all p xs) k in
    (f x h.0 parts.0, each_with P Q p xs f h.1 parts.1)

-- a test that their numbers pass
pub each_passes : {X : Type 0} (P : X → Type 0) (f : X → ℕ) (p : ℕ → Bool) (xs : List X)
    → ((x : X) → P x → IsTrue (p (f x))) → AllByRecursion P xs → IsTrue (list_all p (map f xs))
each_passes P f p [] g h = refl
each_passes P f p (x ∷ xs) g h =
    and_from (p (f x)) (list_all p (map f xs)) (g x h.0) (each_passes P f p xs g h.1)

pub each_inserted : {X : Type 0} (P : X → Type 0) (before : X → X → Bool) (x : X) (xs : List X)
    → P x → AllByRecursion P xs → AllByRecursion P (inserted before x xs)
each_inserted P before x [] h k = (h, tt)
each_inserted P before x (y ∷ ys) h k =
    let later = each_inserted P before x ys h k.1 in
    elim (before x y) as (λ (b : Bool). AllByRecursion P
    (if b then x ∷ y ∷ ys else (if before y x then y ∷ inserted before x ys else y ∷ ys))) [
      | true ↦ (h, k)
      | false ↦
          elim (before y x) as (λ (b : Bool). AllByRecursion P
          (if b then y ∷ inserted before x ys else y ∷ ys)) [
            | true ↦ (k.0, later)
            | false ↦ k
          ]
    ]

-- a test that all pass, as a fact of each
pub each_test : {X : Type 0} (p : X → Bool) (xs : List X) → IsTrue (list_all p xs)
    → AllByRecursion (λ x. IsTrue (p x)) xs
each_test p [] h = tt
each_test p (x ∷ xs) h =
    let parts = and_parts (p x) (list_all p xs) h in (parts.0, each_test p xs parts.1)
