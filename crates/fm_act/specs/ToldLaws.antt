-- What an actuator in memory tells ascends.
use Rattle.std.specs.Prelude.{◌≡◌, ℕ, List, [], ◌∷◌, Bool, true, false, ◌&&◌, refl}
use Rattle.std.specs.Prelude.{None, Some, if◌then◌else◌}
use Rattle.std.proofs.Common.{subst, ap, ◌∙◌}
use Rattle.std.specs.declared.cmp.Ordering.{Ordering}
use Rattle.std.specs.declared.cmp.Ordering.TheVariants.{Less, Equal, Greater}
use Rattle.std.specs.Ordering.{is_lt}
use Rattle.std.specs.List.{AllByRecursion, list_all}
use Rattle.std.specs.List.Sorted.{IsStrictlySortedBy}
use Rattle.fm_name.specs.Order.{path_cmp}
use Rattle.fm_act.specs.MemActuator.{MemActuatorState, are_in_order, told_paths}

less_from : (o : Ordering) → is_lt o ≡ true → o ≡ Less
less_from Less e = refl
less_from Equal e = cc
less_from Greater e = cc

both_true : (a b : Bool) → (a && b) ≡ true → (a ≡ true) × (b ≡ true)
both_true true b e = (refl, e)
both_true false b e = cc

all_less : (x : List ℕ) (xs : List (List ℕ))
    → list_all (λ y. is_lt (path_cmp x y)) xs ≡ true
    → AllByRecursion (λ y. path_cmp x y ≡ Less) xs
all_less x [] e = tt
all_less x (y ∷ ys) e =
    let h = both_true (is_lt (path_cmp x y)) (list_all (λ z. is_lt (path_cmp x z)) ys) e in
    (less_from (path_cmp x y) h.0, all_less x ys h.1)

all_true : (x : List ℕ) (xs : List (List ℕ)) → AllByRecursion (λ y. path_cmp x y ≡ Less) xs
    → list_all (λ y. is_lt (path_cmp x y)) xs ≡ true
all_true x [] h = refl
all_true x (y ∷ ys) h =
    ap (λ o. is_lt o && list_all (λ z. is_lt (path_cmp x z)) ys) h.0 ∙ all_true x ys h.1

sorted_is : (xs : List (List ℕ)) → are_in_order xs ≡ true → IsStrictlySortedBy path_cmp xs
unfolding IsStrictlySortedBy
sorted_is [] e = tt
sorted_is (x ∷ xs) e =
    let h = both_true (list_all (λ y. is_lt (path_cmp x y)) xs) (are_in_order xs) e in
    (all_less x xs h.0, sorted_is xs h.1)

pub ascending_is : (xs : List (List ℕ)) → IsStrictlySortedBy path_cmp xs → are_in_order xs ≡ true
unfolding IsStrictlySortedBy
ascending_is [] s = refl
ascending_is (x ∷ xs) s =
    ap (λ b. b && are_in_order xs) (all_true x xs s.0) ∙ ascending_is xs s.1

told_at : (b : Bool) (xs paths : List (List ℕ)) → are_in_order xs ≡ b
    → (if b then Some xs else None) ≡ Some paths → IsStrictlySortedBy path_cmp paths
told_at true xs paths e told =
    let same : xs ≡ paths = cc in subst (IsStrictlySortedBy path_cmp) same (sorted_is xs e)
told_at false xs paths e told = absurd (let no : ⊥ = cc in no)

pub told_ascends : (act : MemActuatorState) (paths : List (List ℕ))
    → told_paths act ≡ Some paths → IsStrictlySortedBy path_cmp paths
told_ascends act paths told = told_at (are_in_order act.held) act.held paths refl told

pub nothing_told_ascends : (paths : List (List ℕ)) → None ≡ Some paths
    → IsStrictlySortedBy path_cmp paths
nothing_told_ascends paths told = absurd (let no : ⊥ = cc in no)
