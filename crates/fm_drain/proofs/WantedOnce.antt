-- Lists of paths in order that have the same paths are the same.
use Rattle.std.proofs.Common.{◌≡◌, ◌↔◌, inl, inr, ℕ, zero, suc, List, [], ◌∷◌, refl, sym}
use Rattle.std.proofs.Common.{◌∙◌, ap, subst, arith}
use Rattle.std.specs.Cmp.{tied_itself}
use Rattle.std.specs.List.{AllByRecursion, Contains}
use Rattle.std.specs.List.Sorted.{IsStrictlySortedBy}
use Rattle.std.specs.Ordering.{ordering_reverse}
use Rattle.std.specs.declared.cmp.Ordering.{Ordering}
use Rattle.std.specs.declared.cmp.Ordering.TheVariants.{Less, Equal, Greater}
use Rattle.std.proofs.lemmas.List.Elements.{All-contains, All-from_recursion}
use Rattle.std.proofs.lemmas.List.Elements.{Contains-append_cases, Contains-append_right}
use Rattle.fm_core.specs.Drained.{Drained}
use Rattle.fm_entry.specs.declared.list_event.ListEvent.{ListEvent}
use Rattle.fm_name.specs.Order.{path_cmp}
use Rattle.fm_name.specs.OrderLaws.{path_cmp_total, path_tie}
use Rattle.fm_drain.proofs.CaseWords.{one_status}
use Rattle.fm_drain.specs.CaseStatus.{IsStatusOf}
use Rattle.fm_status.specs.Wanted.{IsWantedOf}
use Rattle.fm_drain.specs.Wanting.{AreWantedOf}

abbrev Path : Type 0
Path = List ℕ

abbrev Past : Path → List Path → Type 0
Past x xs = AllByRecursion (λ y. path_cmp x y ≡ Less) xs

not_less : (x : Path) → path_cmp x x ≡ Less → ⊥
not_less x less =
    let both : Equal ≡ Less = sym (tied_itself path_cmp_total x) ∙ less in
    cc

-- a path that all of a list are past is not in it
past_none : (x : Path) (xs : List Path) → Past x xs → Contains xs x → ⊥
past_none x xs past has = not_less x
    (All-contains (λ y. path_cmp x y ≡ Less) xs x
    (All-from_recursion (λ y. path_cmp x y ≡ Less) xs past) has)

past_all : (x y : Path) (ys : List Path) → path_cmp x y ≡ Less → Past y ys → Past x ys
past_all x y [] less past = tt
past_all x y (z ∷ zs) less past =
    (path_cmp_total.trans x y z less past.0, past_all x y zs less past.1)

first_in : (x : Path) (xs : List Path) → Contains (x ∷ xs) x
first_in x xs = (0, omega arith, refl)

rest_in : (x y : Path) (xs : List Path) → Contains xs y → Contains (x ∷ xs) y
rest_in x y xs has = Contains-append_right (x ∷ []) xs y has

alone : (x y : Path) → Contains (x ∷ []) y → x ≡ y
alone x y (zero, low, is) = is
alone x y (suc k, low, is) = absurd (omega (arith, low))

-- the rests of two lists with one first path
rest_same : (x : Path) (xs ys : List Path) → Past x xs
    → ((p : Path) → Contains (x ∷ xs) p → Contains (x ∷ ys) p) → (p : Path) → Contains xs p
    → Contains ys p
rest_same x xs ys past same p has =
    elim (Contains-append_cases (x ∷ []) ys p (same p (rest_in x p xs has))) [
      | inl first ↦ absurd (past_none x xs past
          (subst (λ (q : Path). Contains xs q) (sym (alone x p first)) has))
      | inr other ↦ other
    ]

turned_path : (x y : Path) → path_cmp x y ≡ Greater → path_cmp y x ≡ Less
turned_path x y e = path_cmp_total.antisymm y x ∙ ap ordering_reverse e

first_same : (x y : Path) (xs ys : List Path) (o : Ordering) → path_cmp x y ≡ o → Past x xs
    → Past y ys → ((p : Path) → Contains (x ∷ xs) p ↔ Contains (y ∷ ys) p) → x ≡ y
first_same x y xs ys Equal e past more same = path_tie x y e
first_same x y xs ys Less e past more same =
    absurd (past_none x (y ∷ ys) (e, past_all x y ys e more) ((same x).0 (first_in x xs)))
first_same x y xs ys Greater e past more same =
    let back : path_cmp y x ≡ Less = turned_path x y e in
    absurd (past_none y (x ∷ xs) (back, past_all y x xs back past) ((same y).1 (first_in y ys)))

none_in : (x : Path) → Contains [] x → ⊥
none_in x (k, low, is) = omega (arith, low)

same_paths : (xs ys : List Path) → IsStrictlySortedBy path_cmp xs → IsStrictlySortedBy path_cmp ys
    → ((p : Path) → Contains xs p ↔ Contains ys p) → xs ≡ ys
unfolding IsStrictlySortedBy
same_paths [] [] up more same = refl
same_paths [] (y ∷ ys) up more same = absurd (none_in y ((same y).1 (first_in y ys)))
same_paths (x ∷ xs) [] up more same = absurd (none_in x ((same x).0 (first_in x xs)))
same_paths (x ∷ xs) (y ∷ ys) up more same =
    let one : x ≡ y = first_same x y xs ys (path_cmp x y) refl up.0 more.0 same in
    let there : (p : Path) → Contains (x ∷ xs) p → Contains (x ∷ ys) p =
    λ p has. subst (λ (q : Path). Contains (q ∷ ys) p) (sym one) ((same p).0 has) in
    let back : (p : Path) → Contains (x ∷ ys) p → Contains (x ∷ xs) p =
    λ p has. (same p).1 (subst (λ (q : Path). Contains (q ∷ ys) p) one has) in
    let past : Past x ys = subst (λ (q : Path). Past q ys) (sym one) more.0 in
    let rest : xs ≡ ys = same_paths xs ys up.1 more.1
    (λ p. (rest_same x xs ys up.0 there p, rest_same x ys xs past back p)) in
    cc

pub wanted_once : (d : Drained) (paths others : List (List ℕ)) → AreWantedOf d paths
    → AreWantedOf d others → paths ≡ others
wanted_once d paths others one other =
    let rows : one.rows ≡ other.rows = one_status d one.rows other.rows one.status other.status in
    let wants : IsWantedOf other.rows paths =
    subst (λ (r : List ListEvent). IsWantedOf r paths) rows one.wants in
    same_paths paths others wants.ascend other.wants.ascend
    (λ p. (
      λ has. (other.wants.same p).1 ((wants.same p).0 has),
      λ has. (wants.same p).1 ((other.wants.same p).0 has),
    ))

pub wanted_is : (d : Drained) (rows : List ListEvent) (paths : List (List ℕ)) → IsStatusOf d rows
    → IsWantedOf rows paths → AreWantedOf d paths
wanted_is d rows paths status wants = record { rows = rows; status = status; wants = wants }
