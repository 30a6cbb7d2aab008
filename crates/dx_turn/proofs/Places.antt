-- The first item that passes a test, and what stands in its place.
use Rattle.std.proofs.Common.{◌≡◌, ℕ, ◌+◌, suc, ◌<◌, Bool, true, false, not, ◌||◌, nat_lt, List, []}
use Rattle.std.proofs.Common.{◌∷◌, ◌++◌, length, refl, ap, ◌∙◌, arith, Some, None}
use Rattle.std.proofs.Common.{slice_get, slice_set, cond, length-append}
use Rattle.std.specs.Prelude.{remove, position}
use Rattle.std.specs.List.{list_any, position_or_len}
use Rattle.std.proofs.lemmas.Bool.{lt-ltb, or_parts}
use Rattle.std.proofs.lemmas.Bool.Decides.{nat_tests}

pub any_append : {X : Type 0} (p : X → Bool) (xs ys : List X) → list_any p xs ≡ false
    → list_any p ys ≡ false → list_any p (xs ++ ys) ≡ false
any_append p [] ys h k = k
any_append p (x ∷ xs) ys h k =
    let parts = or_parts (p x) (list_any p xs) h in
    ap (λ (b : Bool). b || list_any p (xs ++ ys)) parts.0 ∙ any_append p xs ys parts.1 k

next : (m n : ℕ) → m ≡ n → 1 + m ≡ suc n
next m n h = omega arith

length_none : {X : Type 0} (p : X → Bool) (xs : List X) → list_any p xs ≡ false
    → position_or_len p xs ≡ length xs
length_none p [] h = refl
length_none p (x ∷ xs) h =
    let parts = or_parts (p x) (list_any p xs) h in
    ap (λ (b : Bool). cond (not b) (1 + position_or_len p xs) 0) parts.0
    ∙ next (position_or_len p xs) (length xs) (length_none p xs parts.1)

length_first : {X : Type 0} (p : X → Bool) (xs ys : List X) (y : X) → list_any p xs ≡ false
    → p y ≡ true → position_or_len p (xs ++ y ∷ ys) ≡ length xs
length_first p [] ys y h k =
    ap (λ (b : Bool). cond (not b) (1 + position_or_len p ys) 0) k
length_first p (x ∷ xs) ys y h k =
    let parts = or_parts (p x) (list_any p xs) h in
    ap (λ (b : Bool). cond (not b) (1 + position_or_len p (xs ++ y ∷ ys)) 0) parts.0
    ∙ next (position_or_len p (xs ++ y ∷ ys)) (length xs) (length_first p xs ys y parts.1 k)

-- no item passes
pub place_none : {X : Type 0} (p : X → Bool) (xs : List X) → list_any p xs ≡ false
    → position p xs ≡ None
place_none p xs h =
    let low : nat_lt (length xs) (length xs) ≡ false = grind (arith, nat_tests) in
    ap (λ n. cond (nat_lt n (length xs)) (Some n) None) (length_none p xs h)
    ∙ ap (λ (b : Bool). cond b (Some (length xs)) None) low

-- the items before one pass not, and it does
pub place_first : {X : Type 0} (p : X → Bool) (xs ys : List X) (y : X) → list_any p xs ≡ false
    → p y ≡ true → position p (xs ++ y ∷ ys) ≡ Some (length xs)
place_first p xs ys y h k =
    let all = length-append xs (y ∷ ys) in
    let low : length xs < length (xs ++ y ∷ ys) = omega (arith, all) in
    ap (λ n. cond (nat_lt n (length (xs ++ y ∷ ys))) (Some n) None) (length_first p xs ys y h k)
    ∙ ap (λ (b : Bool). cond b (Some (length xs)) None)
    (lt-ltb (length xs) (length (xs ++ y ∷ ys)) low)

-- what stands there, and what stands there instead
pub get_there : {X : Type 0} (xs ys : List X) (y : X)
    → slice_get (xs ++ y ∷ ys) (length xs) ≡ Some y
get_there [] ys y = refl
get_there (x ∷ xs) ys y = get_there xs ys y

pub set_there : {X : Type 0} (xs ys : List X) (y z : X)
    → slice_set (xs ++ y ∷ ys) (length xs) z ≡ xs ++ z ∷ ys
set_there [] ys y z = refl
set_there (x ∷ xs) ys y z = ap (λ zs. x ∷ zs) (set_there xs ys y z)

pub remove_there : {X : Type 0} (xs ys : List X) (y : X)
    → remove (xs ++ y ∷ ys) (length xs) ≡ xs ++ ys
remove_there [] ys y = refl
remove_there (x ∷ xs) ys y = ap (λ zs. x ∷ zs) (remove_there xs ys y)
