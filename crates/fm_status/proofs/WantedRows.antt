-- Rows as they stand want the same paths as in the order of cases.
use Rattle.std.proofs.Common.{◌≡◌, ⊎_elim, ◌<◌, ◌+◌, ℕ, zero, suc, List, [], ◌∷◌, ◌++◌}
use Rattle.std.proofs.Common.{length, get_or, take, refl, sym, ap, ◌∙◌, subst, arith}
use Rattle.std.proofs.Common.{Option, Some, None, slice_get}
use Rattle.std.specs.Prelude.{flat_map, nat_eq}
use Rattle.std.specs.Cmp.Lexicographic.{pointwise}
use Rattle.std.specs.List.{Contains}
use Rattle.std.specs.Map.{values_of}
use Rattle.std.proofs.lemmas.Grind.{flat_map-append}
use Rattle.std.proofs.lemmas.List.{take_more, append-nil}
use Rattle.std.proofs.lemmas.List.Elements.{Contains-append_left, Contains-append_right}
use Rattle.std.proofs.lemmas.List.Elements.{Contains-append_cases}
use Rattle.std.proofs.lemmas.List.Sums.{fold-append}
use Rattle.std.proofs.lemmas.Option.{same_Some, slice_get_within}
use Rattle.indexmap.specs.IndexSet.{insert_all, insert_key}
use Rattle.fm_entry.specs.declared.list_event.ListEvent.{ListEvent}
use Rattle.fm_status.specs.Rows.{ArePlacedRows, with_found, placed_rows}
use Rattle.fm_status.specs.Wanted.{row_paths, wanted_paths, IsWantedOf}
use Rattle.fm_status.proofs.RowPlaces.{nothing_there, first_or_later}

-- ---- what stands in the lists of items

nothing_in : {X A : Type 0} (x : X) → Contains [] x → A
nothing_in x c = absurd (omega (arith, c.1))

in_lists : {X A : Type 0} (f : X → List A) (xs : List X) (n : ℕ) (x : X) (a : A)
    → slice_get xs n ≡ Some x → Contains (f x) a → Contains (flat_map f xs) a
in_lists f [] n x a s c = cc
in_lists f (y ∷ ys) zero x a s c =
    Contains-append_left (f y) (flat_map f ys) a
    (subst (λ z. Contains (f z) a) (sym (same_Some y x s)) c)
in_lists f (y ∷ ys) (suc n) x a s c =
    Contains-append_right (f y) (flat_map f ys) a (in_lists f ys n x a s c)

-- an item of a list, and what stands in the list of that item
record IsInOne {X A : Type 0} (f : X → List A) (xs : List X) (a : A) : Type 0 where
  place : ℕ
  item : X
  stands : slice_get xs place ≡ Some item
  there : Contains (f item) a

one_later : {X A : Type 0} (f : X → List A) (y : X) (ys : List X) (a : A) → IsInOne f ys a
    → IsInOne f (y ∷ ys) a
one_later f y ys a o =
    record { place = suc o.place; item = o.item; stands = o.stands; there = o.there }

in_one : {X A : Type 0} (f : X → List A) (xs : List X) (a : A) → Contains (flat_map f xs) a
    → IsInOne f xs a
in_one f [] a c = nothing_in a c
in_one f (y ∷ ys) a c =
    ⊎_elim (λ first. record { place = 0; item = y; stands = refl; there = first })
    (λ later. one_later f y ys a (in_one f ys a later))
    (Contains-append_cases (f y) (flat_map f ys) a c)

-- ---- rows at places

from_found : {A : Type 0} (f : ListEvent → List A) (rows rest : List ListEvent) (p : ℕ) (a : A)
    (o : Option ListEvent) → slice_get rows p ≡ o → Contains (flat_map f (with_found o rest)) a
    → (Contains (flat_map f rest) a → Contains (flat_map f rows) a) → Contains (flat_map f rows) a
from_found f rows rest p a None s c more = more c
from_found f rows rest p a (Some x) s c more =
    ⊎_elim (λ first. in_lists f rows p x a s first) more
    (Contains-append_cases (f x) (flat_map f rest) a c)

from_placed : {A : Type 0} (f : ListEvent → List A) (rows : List ListEvent) (ps : List ℕ) (a : A)
    → Contains (flat_map f (placed_rows rows ps)) a → Contains (flat_map f rows) a
from_placed f rows [] a c = nothing_in a c
from_placed f rows (p ∷ ps) a c =
    from_found f rows (placed_rows rows ps) p a (slice_get rows p) refl c (from_placed f rows ps a)

behind_found : {A : Type 0} (f : ListEvent → List A) (rest : List ListEvent) (a : A)
    (o : Option ListEvent) → Contains (flat_map f rest) a
    → Contains (flat_map f (with_found o rest)) a
behind_found f rest a None c = c
behind_found f rest a (Some x) c = Contains-append_right (f x) (flat_map f rest) a c

in_placed : {A : Type 0} (f : ListEvent → List A) (rows : List ListEvent) (ps : List ℕ) (n : ℕ)
    (x : ListEvent) (a : A) → Contains ps n → slice_get rows n ≡ Some x → Contains (f x) a
    → Contains (flat_map f (placed_rows rows ps)) a
in_placed f rows [] n x a h s c = nothing_there n h
in_placed f rows (p ∷ ps) n x a h s c =
    let rest = placed_rows rows ps in
    ⊎_elim (λ e. subst (λ o. Contains (flat_map f (with_found o rest)) a)
    (sym (ap (slice_get rows) e ∙ s)) (Contains-append_left (f x) (flat_map f rest) a c))
    (λ later. behind_found f rest a (slice_get rows p) (in_placed f rows ps n x a later s c))
    (first_or_later p ps n h)

-- what rows want as they stand, they want in the order of cases
pub wanted_in_order : (rows : List ListEvent) (es : List ((ℕ × ℕ) × ℕ)) (paths : List (List ℕ))
    → ArePlacedRows rows es → IsWantedOf rows paths
    → IsWantedOf (placed_rows rows (values_of es)) paths
unfolding wanted_paths
wanted_in_order rows es paths a w = record {
  ascend = w.ascend;
  same = λ p. (
    (λ h. let one = in_one row_paths rows p ((w.same p).0 h) in
        in_placed row_paths rows (values_of es) one.place one.item p
        (a.have_places one.place (slice_get_within rows one.place one.item one.stands))
        one.stands one.there),
    (λ h. (w.same p).1 (from_placed row_paths rows (values_of es) p h)),
  );
}

-- ---- a row more

-- the paths of the row at a place are put after those of the rows before it
pub paths_taken : (rows : List ListEvent) (i : ℕ) (r : ListEvent) → i < length rows
    → r ≡ get_or rows i r
    → insert_all (pointwise nat_eq) [] (flat_map row_paths (take (i + 1) rows))
    ≡ insert_all (pointwise nat_eq) (insert_all (pointwise nat_eq) []
    (flat_map row_paths (take i rows))) (row_paths r)
paths_taken rows i r lt e =
    let before = take i rows in
    ap (λ z. insert_all (pointwise nat_eq) [] (flat_map row_paths z)) (take_more rows i r lt)
    ∙ (ap (λ z. insert_all (pointwise nat_eq) [] (flat_map row_paths (before ++ (z ∷ [])))) (sym e)
    ∙ (ap (λ z. insert_all (pointwise nat_eq) [] z) (flat_map-append row_paths before (r ∷ []))
    ∙ (fold-append (insert_key (pointwise nat_eq)) [] (flat_map row_paths before)
    (row_paths r ++ [])
    ∙ ap (λ z. insert_all (pointwise nat_eq) (insert_all (pointwise nat_eq) []
    (flat_map row_paths before)) z) (append-nil (row_paths r)))))
