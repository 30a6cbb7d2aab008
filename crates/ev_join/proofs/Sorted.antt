-- Items that are sorted stand in the order of their numbers.
use Rattle.std.proofs.Common.{◌≡◌, ◌<◌, ℕ, false, nat_lt, ◌==◌, List, [], ◌∷◌}
use Rattle.std.proofs.Common.{get_or}
use Rattle.std.proofs.Common.{slice_get, Some, inl, inr, arith, ap, sym, ◌∙◌}
use Rattle.std.specs.Ordering.{nat_cmp, is_lt}
use Rattle.std.specs.Cmp.Lexicographic.{slice_cmp, nat_list_cmp_total}
use Rattle.std.specs.List.Sorted.{IsSortedBy}
use Rattle.std.proofs.lemmas.Bool.{cases_Bool}
use Rattle.std.proofs.lemmas.Grind.{common_steps}
use Rattle.std.proofs.lemmas.List.Sorted.{ranks_by, sorted_far}
use Rattle.std.proofs.lemmas.Option.{get_or_from_slice_get, slice_get_within}
use Rattle.std.proofs.Common.{IsPermutation}
use Rattle.ev_join.specs.Order.{IsNotBefore}
use Rattle.ev_join.specs.Candidates.{AreInOrder}

from_cmp : (b a : List ℕ) → is_lt (slice_cmp nat_cmp b a) ≡ false → IsNotBefore b a
from_cmp b [] e = tt
from_cmp [] (y ∷ a) e = absurd (let no : ⊥ = cc in no)
from_cmp (x ∷ b) (y ∷ a) e = elim (cases_Bool (nat_lt x y)) [
  | inl less ↦ let f = rw less at e in absurd (let no : ⊥ = cc in no)
  | inr not_less ↦ elim (cases_Bool (x == y)) [
    | inl so ↦
        let same : x ≡ y = grind (arith, common_steps, so) in
        inr (same, from_cmp b a (rw (not_less, so) at e))
    | inr not_so ↦ inl (grind (arith, common_steps, not_less, not_so))
  ]
]

-- items whose lists of numbers are sorted stand in their order
pub items_in_order : {X : Type 0} (values : X → List ℕ) (xs : List X)
    → IsSortedBy (λ (a b : X). is_lt (slice_cmp nat_cmp (values a) (values b))) xs
    → (i j : ℕ) (r s : X) → i < j → slice_get xs i ≡ Some r → slice_get xs j ≡ Some s
    → IsNotBefore (values s) (values r)
items_in_order {X} values xs up i j r s less p q =
    let far = sorted_far (λ (a b : X). is_lt (slice_cmp nat_cmp (values a) (values b)))
    (ranks_by nat_list_cmp_total values) xs up i j r (omega (arith, less))
    (slice_get_within xs j s q) in
    let at_j = get_or_from_slice_get xs j s r q in
    let at_i = get_or_from_slice_get xs i r r p in
    from_cmp (values s) (values r)
    (ap (λ (y : X). is_lt (slice_cmp nat_cmp (values y) (values r))) (sym at_j)
    ∙ ap (λ (y : X). is_lt (slice_cmp nat_cmp (values (get_or xs j r)) (values y))) (sym at_i)
    ∙ far)

pub sorted_bindings : (bs cs : List (List ℕ)) → IsPermutation bs cs
    → IsSortedBy (λ (a b : List ℕ). is_lt (slice_cmp nat_cmp a b)) cs → AreInOrder bs cs
sorted_bindings bs cs moved up = record {
  same = moved;
  order = λ i j a b. items_in_order (λ (c : List ℕ). c) cs up i j a b;
}
