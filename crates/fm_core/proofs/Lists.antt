-- Lists: facts of each element, what a filter keeps, and elements by place.
use Rattle.std.proofs.Common.{◌≡◌, ◌≢◌, ℕ, zero, suc, ◌+◌, Bool, true, false, List, [], ◌∷◌}
use Rattle.std.proofs.Common.{◌++◌, take, map, set, Some, length, refl, ap, add-one, arith}
use Rattle.std.proofs.lemmas.Option.{same_Some}
use Rattle.std.specs.List.{AllByRecursion, filter, slice_get, list_all}
use Rattle.std.proofs.lemmas.Bool.{and_parts}

-- a fact of each element of two lists is one of each element of both
pub all_append : {X : Type 0} (P : X → Type 0) (xs ys : List X) → AllByRecursion P xs
    → AllByRecursion P ys → AllByRecursion P (xs ++ ys)
all_append P [] ys a b = b
all_append P (x ∷ xs) ys a b = (a.0, all_append P xs ys a.1 b)

-- and of both it is one of each element of the second
pub all_right : {X : Type 0} (P : X → Type 0) (xs ys : List X) → AllByRecursion P (xs ++ ys)
    → AllByRecursion P ys
all_right P [] ys a = a
all_right P (x ∷ xs) ys a = all_right P xs ys a.1

-- a weaker fact holds of each element too
pub all_map : {X : Type 0} (P Q : X → Type 0) (xs : List X) → ((x : X) → P x → Q x)
    → AllByRecursion P xs → AllByRecursion Q xs
all_map P Q [] f a = tt
all_map P Q (x ∷ xs) f a = (f x a.0, all_map P Q xs f a.1)

-- a filter that all pass keeps all
pub filter_all : {X : Type 0} (p : X → Bool) (xs : List X) → AllByRecursion (λ x. p x ≡ true) xs
    → filter p xs ≡ xs
filter_all p [] a = refl
filter_all p (x ∷ xs) a = rw a.0 (ap (λ ys. x ∷ ys) (filter_all p xs a.1))

-- a filter that none passes keeps none
pub filter_none : {X : Type 0} (p : X → Bool) (xs : List X) → AllByRecursion (λ x. p x ≡ false) xs
    → filter p xs ≡ []
filter_none p [] a = refl
filter_none p (x ∷ xs) a = rw a.0 (filter_none p xs a.1)

swap_step : {X : Type 0} (p q : X → Bool) (x : X) (xs : List X)
    → filter p (filter q xs) ≡ filter q (filter p xs) → (a b : Bool) → p x ≡ a → q x ≡ b
    → filter p (filter q (x ∷ xs)) ≡ filter q (filter p (x ∷ xs))
swap_step p q x xs h true true e f = simp (e, f) (ap (λ ys. x ∷ ys) h)
swap_step p q x xs h true false e f = simp (e, f) h
swap_step p q x xs h false true e f = simp (e, f) h
swap_step p q x xs h false false e f = simp (e, f) h

-- two filters may change places
pub filter_swap : {X : Type 0} (p q : X → Bool) (xs : List X)
    → filter p (filter q xs) ≡ filter q (filter p xs)
filter_swap p q [] = refl
filter_swap p q (x ∷ xs) = swap_step p q x xs (filter_swap p q xs) (p x) (q x) refl refl

filter_step : {X : Type 0} (P : X → Type 0) (p : X → Bool) (x : X) (xs : List X) → P x
    → AllByRecursion P (filter p xs) → (b : Bool) → p x ≡ b → AllByRecursion P (filter p (x ∷ xs))
filter_step P p x xs h a true e = rw e (h, a)
filter_step P p x xs h a false e = rw e a

-- what holds of each element holds of each that a filter keeps
pub all_filter : {X : Type 0} (P : X → Type 0) (p : X → Bool) (xs : List X) → AllByRecursion P xs
    → AllByRecursion P (filter p xs)
all_filter P p [] a = tt
all_filter P p (x ∷ xs) a = filter_step P p x xs a.0 (all_filter P p xs a.1) (p x) refl

passes_step : {X : Type 0} (p : X → Bool) (x : X) (xs : List X)
    → AllByRecursion (λ y. p y ≡ true) (filter p xs) → (b : Bool) → p x ≡ b
    → AllByRecursion (λ y. p y ≡ true) (filter p (x ∷ xs))
passes_step p x xs a true e = rw e (e, a)
passes_step p x xs a false e = rw e a

-- each element that a filter keeps passes it
pub filter_passes : {X : Type 0} (p : X → Bool) (xs : List X)
    → AllByRecursion (λ y. p y ≡ true) (filter p xs)
filter_passes p [] = tt
filter_passes p (x ∷ xs) = passes_step p x xs (filter_passes p xs) (p x) refl

-- two lists of one length that have the same elements by place
pub same_list : {X : Type 0} (xs ys : List X) → length xs ≡ length ys
    → ((i : ℕ) (x : X) → slice_get xs i ≡ Some x → slice_get ys i ≡ Some x) → xs ≡ ys
same_list [] [] e h = refl
same_list [] (y ∷ ys) e h = absurd (let no : ⊥ = omega arith in no)
same_list (x ∷ xs) [] e h = absurd (let no : ⊥ = omega arith in no)
same_list (x ∷ xs) (y ∷ ys) e h =
    let first : y ≡ x = same_Some y x (h 0 x refl) in
    let rest : xs ≡ ys = same_list xs ys (omega arith) (λ i z a. h (suc i) z a) in
    cc

-- the element just written
pub get_set_same : {X : Type 0} (xs : List X) (i : ℕ) (x v : X) → slice_get xs i ≡ Some x
    → slice_get (set xs i v) i ≡ Some v
get_set_same [] i x v h = cc
get_set_same (y ∷ xs) zero x v h = refl
get_set_same (y ∷ xs) (suc i) x v h = get_set_same xs i x v h

-- an element beside the one just written
pub get_set_other : {X : Type 0} (xs : List X) (i j : ℕ) (v : X) → j ≢ i
    → slice_get (set xs i v) j ≡ slice_get xs j
get_set_other [] i j v h = refl
get_set_other (y ∷ xs) zero zero v h = absurd (h refl)
get_set_other (y ∷ xs) zero (suc j) v h = refl
get_set_other (y ∷ xs) (suc i) zero v h = refl
get_set_other (y ∷ xs) (suc i) (suc j) v h = get_set_other xs i j v (λ e. h (ap suc e))

-- one element more at the front
take_suc : {X : Type 0} (xs : List X) (i : ℕ) (x : X) → slice_get xs i ≡ Some x
    → take (suc i) xs ≡ take i xs ++ x ∷ []
take_suc [] i x h = cc
take_suc (y ∷ xs) zero x h = cc
take_suc (y ∷ xs) (suc i) x h = ap (λ ys. y ∷ ys) (take_suc xs i x h)

pub take_push : {X : Type 0} (xs : List X) (i : ℕ) (x : X) → slice_get xs i ≡ Some x
    → take (i + 1) xs ≡ take i xs ++ x ∷ []
take_push xs i x h = rw add-one (take_suc xs i x h)

-- an element of a mapped list comes from one of the list
pub map_got : {X Y : Type 0} (f : X → Y) (xs : List X) (i : ℕ) (y : Y)
    → slice_get (map f xs) i ≡ Some y → (x : X) × (slice_get xs i ≡ Some x) × (f x ≡ y)
map_got f [] i y h = absurd (let no : ⊥ = cc in no)
map_got f (x ∷ xs) zero y h = (x, refl, cc)
map_got f (x ∷ xs) (suc i) y h = map_got f xs i y h

-- and each element of the list is found there
pub map_get : {X Y : Type 0} (f : X → Y) (xs : List X) (i : ℕ) (x : X) → slice_get xs i ≡ Some x
    → slice_get (map f xs) i ≡ Some (f x)
map_get f [] i x h = cc
map_get f (y ∷ xs) zero x h = cc
map_get f (y ∷ xs) (suc i) x h = map_get f xs i x h

-- two functions that agree at each element make one list
pub map_same : {X Y : Type 0} (f g : X → Y) (xs : List X)
    → ((i : ℕ) (x : X) → slice_get xs i ≡ Some x → f x ≡ g x) → map f xs ≡ map g xs
map_same f g [] h = refl
map_same f g (x ∷ xs) h = let e : f x ≡ g x = h 0 x refl in let t : map f xs ≡ map g xs =
    map_same f g xs (λ i y q. h (suc i) y q) in cc

-- a map of a map is one map
pub map_map : {X Y Z : Type 0} (f : X → Y) (g : Y → Z) (xs : List X)
    → map g (map f xs) ≡ map (λ x. g (f x)) xs
map_map f g [] = refl
map_map f g (x ∷ xs) = ap (λ ys. g (f x) ∷ ys) (map_map f g xs)

-- each element of a list that all pass passes
pub list_all_get : {X : Type 0} (p : X → Bool) (xs : List X) (i : ℕ) (x : X) → list_all p xs ≡ true
    → slice_get xs i ≡ Some x → p x ≡ true
list_all_get p [] i x a h = absurd (let no : ⊥ = cc in no)
list_all_get p (y ∷ xs) zero x a h = let f : p y ≡ true = (and_parts (p y) (list_all p xs) a).0 in
    let e : y ≡ x = cc in rw (← e) f
list_all_get p (y ∷ xs) (suc i) x a h =
    list_all_get p xs i x (and_parts (p y) (list_all p xs) a).1 h
