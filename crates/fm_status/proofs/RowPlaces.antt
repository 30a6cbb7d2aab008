-- Rows that stand in any order, and the map of their places.
use Rattle.std.proofs.Common.{◌≡◌, ◌⊎◌, inl, inr, ◌<◌, ℕ, zero, suc, Bool, true, false, cond}
use Rattle.std.proofs.Common.{List, [], ◌∷◌, ◌++◌, length, map, refl, sym, ap, ◌∙◌, subst}
use Rattle.std.proofs.Common.{Option, Some, None, slice_get}
use Rattle.std.proofs.Common.{⊎_elim, arith}
use Rattle.std.proofs.Math.ListN.{set}
use Rattle.std.proofs.lemmas.Bool.{cases_eq}
use Rattle.std.proofs.lemmas.List.{length_push, length-set}
use Rattle.std.proofs.lemmas.List.Elements.{Contains-append_left, Contains-append_right}
use Rattle.std.proofs.lemmas.List.Elements.{Contains-append_cases, Contains-push}
use Rattle.std.proofs.lemmas.List.Elements.{Contains-push_cases}
use Rattle.std.proofs.lemmas.Option.{slice_get_within}
use Rattle.std.specs.Option.{unwrap_or}
use Rattle.std.specs.declared.cmp.Ordering.{Ordering}
use Rattle.std.specs.declared.cmp.Ordering.TheVariants.{Less, Equal, Greater}
use Rattle.std.specs.Ordering.{match_ordering, is_eq}
use Rattle.std.specs.Cmp.{tied_itself}
use Rattle.std.specs.List.{AllByRecursion, Contains}
use Rattle.std.specs.List.Sorted.{IsStrictlySortedBy}
use Rattle.std.specs.Map.{keys_of, values_of, lookup}
use Rattle.std.specs.BTreeMap.{insert_entry, is_at}
use Rattle.fm_entry.specs.declared.case_name.CaseName.{CaseName}
use Rattle.fm_entry.specs.declared.list_event.ListEvent.{ListEvent}
use Rattle.fm_status.specs.Rows.{case_cmp, case_key, case_row, key_cmp, put_row, AreRowsAt}
use Rattle.fm_status.specs.Rows.{ArePlacedRows, with_found, placed_rows}
use Rattle.fm_status.proofs.CaseOrder.{key_tie, key_total}
use Rattle.fm_status.proofs.RowMap.{AreKeyed, values_put, row_found, rows_ascend}

-- ---- items of a list that has another item at a place, or one more

next_other : {X : Type 0} (p q : ℕ) (a b : Option X) → (q ≡ p) ⊎ (a ≡ b)
    → (suc q ≡ suc p) ⊎ (a ≡ b)
next_other p q a b (inl e) = inl (ap suc e)
next_other p q a b (inr e) = inr e

set_other : {X : Type 0} (xs : List X) (p q : ℕ) (x : X)
    → (q ≡ p) ⊎ (slice_get (set xs p x) q ≡ slice_get xs q)
set_other [] p q x = inr refl
set_other (y ∷ ys) zero zero x = inl refl
set_other (y ∷ ys) zero (suc q) x = inr refl
set_other (y ∷ ys) (suc p) zero x = inr refl
set_other (y ∷ ys) (suc p) (suc q) x =
    next_other p q (slice_get (set ys p x) q) (slice_get ys q) (set_other ys p q x)

set_same : {X : Type 0} (xs : List X) (p : ℕ) (x y : X) → slice_get xs p ≡ Some y
    → slice_get (set xs p x) p ≡ Some x
set_same [] p x y e = cc
set_same (z ∷ zs) zero x y e = refl
set_same (z ∷ zs) (suc p) x y e = set_same zs p x y e

more_same : {X : Type 0} (xs ys : List X) (p : ℕ) (x : X) → slice_get xs p ≡ Some x
    → slice_get (xs ++ ys) p ≡ Some x
more_same [] ys p x e = cc
more_same (z ∷ zs) ys zero x e = e
more_same (z ∷ zs) ys (suc p) x e = more_same zs ys p x e

more_last : {X : Type 0} (xs : List X) (x : X) → slice_get (xs ++ (x ∷ [])) (length xs) ≡ Some x
more_last [] x = refl
more_last (y ∷ ys) x = more_last ys x

-- ---- rows with their keys

abbrev with_key : ℕ × ℕ → Option ListEvent → List ((ℕ × ℕ) × ListEvent)
    → List ((ℕ × ℕ) × ListEvent)
with_key k None rest = rest
with_key k (Some r) rest = (k, r) ∷ rest

-- the rows at the places of keys, with these
abbrev row_entries : List ListEvent → List ((ℕ × ℕ) × ℕ) → List ((ℕ × ℕ) × ListEvent)
row_entries rows [] = []
row_entries rows (e ∷ es) = with_key e.0 (slice_get rows e.1) (row_entries rows es)

values_with : (k : ℕ × ℕ) (o : Option ListEvent) (rest : List ((ℕ × ℕ) × ListEvent))
    → values_of (with_key k o rest) ≡ with_found o (values_of rest)
values_with k None rest = refl
values_with k (Some r) rest = refl

entries_values : (rows : List ListEvent) (es : List ((ℕ × ℕ) × ℕ))
    → values_of (row_entries rows es) ≡ placed_rows rows (values_of es)
entries_values rows [] = refl
entries_values rows (e ∷ es) =
    values_with e.0 (slice_get rows e.1) (row_entries rows es)
    ∙ ap (with_found (slice_get rows e.1)) (entries_values rows es)

one_entry : (rows : List ListEvent) (e : (ℕ × ℕ) × ℕ) (es : List ((ℕ × ℕ) × ℕ)) (r : ListEvent)
    → slice_get rows e.1 ≡ Some r → row_entries rows (e ∷ es) ≡ (e.0, r) ∷ row_entries rows es
one_entry rows e es r s = ap (λ o. with_key e.0 o (row_entries rows es)) s

entries_keys : (rows : List ListEvent) (es : List ((ℕ × ℕ) × ℕ)) → AreRowsAt rows es
    → keys_of (row_entries rows es) ≡ keys_of es
entries_keys rows [] a = refl
entries_keys rows (e ∷ es) a =
    ap keys_of (one_entry rows e es a.0.0 a.0.1.0)
    ∙ ap (λ ks. e.0 ∷ ks) (entries_keys rows es a.1)

entries_keyed : (rows : List ListEvent) (es : List ((ℕ × ℕ) × ℕ)) → AreRowsAt rows es
    → AreKeyed (row_entries rows es)
entries_keyed rows [] a = tt
entries_keyed rows (e ∷ es) a =
    subst AreKeyed (sym (one_entry rows e es a.0.0 a.0.1.0))
    (a.0.1.1, entries_keyed rows es a.1)

-- rows at places whose keys ascend are in the order of cases
pub placed_ascend : (rows : List ListEvent) (es : List ((ℕ × ℕ) × ℕ)) → ArePlacedRows rows es
    → IsStrictlySortedBy case_cmp (map (λ row. row.case) (placed_rows rows (values_of es)))
placed_ascend rows es a =
    subst (λ z. IsStrictlySortedBy case_cmp (map (λ row. row.case) z)) (entries_values rows es)
    (rows_ascend (row_entries rows es) (entries_keyed rows es a.are_at)
    (subst (IsStrictlySortedBy key_cmp) (sym (entries_keys rows es a.are_at)) a.ascend))

-- ---- the row of a case

-- the row at a place, where a place was found
abbrev pub row_at_found : List ListEvent → Option ℕ → Option ListEvent
row_at_found rows None = None
row_at_found rows (Some p) = slice_get rows p

found_first : (b : Bool) (rows : List ListEvent) (p : ℕ) (r : ListEvent) (o : Option ℕ)
    (found : Option ListEvent) → slice_get rows p ≡ Some r → found ≡ row_at_found rows o
    → cond b (Some r) found ≡ row_at_found rows (cond b (Some p) o)
found_first true rows p r o found s e = sym s
found_first false rows p r o found s e = e

entry_found : (t : ℕ × ℕ → Bool) (rows : List ListEvent) (es : List ((ℕ × ℕ) × ℕ))
    → AreRowsAt rows es → lookup t (row_entries rows es) ≡ row_at_found rows (lookup t es)
entry_found t rows [] a = refl
entry_found t rows (e ∷ es) a =
    ap (lookup t) (one_entry rows e es a.0.0 a.0.1.0)
    ∙ found_first (t e.0) rows e.1 a.0.0 (lookup t es) (lookup t (row_entries rows es)) a.0.1.0
    (entry_found t rows es a.1)

-- what stands at the place of a key is the row of its case
pub row_at_key : (rows : List ListEvent) (es : List ((ℕ × ℕ) × ℕ)) (k : ℕ × ℕ) (c : CaseName)
    → ArePlacedRows rows es → k ≡ case_key c → row_at_found rows (lookup (is_at (key_cmp k)) es)
    ≡ case_row c (placed_rows rows (values_of es))
row_at_key rows es k c a e =
    sym (entry_found (is_at (key_cmp k)) rows es a.are_at)
    ∙ (ap (λ z. lookup (is_at (key_cmp z)) (row_entries rows es)) e
    ∙ (row_found (row_entries rows es) c (entries_keyed rows es a.are_at)
    ∙ ap (case_row c) (entries_values rows es)))

-- ---- a row more

entries_more : (rows more : List ListEvent) (es : List ((ℕ × ℕ) × ℕ)) → AreRowsAt rows es
    → row_entries (rows ++ more) es ≡ row_entries rows es
entries_more rows more [] a = refl
entries_more rows more (e ∷ es) a =
    one_entry (rows ++ more) e es a.0.0 (more_same rows more e.1 a.0.0 a.0.1.0)
    ∙ (ap (λ z. (e.0, a.0.0) ∷ z) (entries_more rows more es a.1)
    ∙ sym (one_entry rows e es a.0.0 a.0.1.0))

at_more : (rows more : List ListEvent) (es : List ((ℕ × ℕ) × ℕ)) → AreRowsAt rows es
    → AreRowsAt (rows ++ more) es
at_more rows more [] a = tt
at_more rows more (e ∷ es) a =
    ((a.0.0, (more_same rows more e.1 a.0.0 a.0.1.0, a.0.1.1)), at_more rows more es a.1)

-- the entries with one more, at whose place stands the last of the rows
abbrev with_last : List ListEvent → List ((ℕ × ℕ) × ℕ) → ℕ × ℕ → List ((ℕ × ℕ) × ℕ)
with_last rows es k = insert_entry key_cmp es k (length rows)

add_at : (o : Ordering) (rows : List ListEvent) (w : ListEvent) (e : (ℕ × ℕ) × ℕ)
    (es : List ((ℕ × ℕ) × ℕ)) (k : ℕ × ℕ) (a : AreRowsAt rows (e ∷ es))
    → row_entries (rows ++ (w ∷ [])) (with_last rows es k)
    ≡ insert_entry key_cmp (row_entries rows es) k w
    → row_entries (rows ++ (w ∷ [])) (match_ordering o ((k, length rows) ∷ e ∷ es)
    ((e.0, length rows) ∷ es) (e ∷ with_last rows es k))
    ≡ match_ordering o ((k, w) ∷ (e.0, a.0.0) ∷ row_entries rows es)
    ((e.0, w) ∷ row_entries rows es)
    ((e.0, a.0.0) ∷ insert_entry key_cmp (row_entries rows es) k w)
add_at Less rows w e es k a h =
    one_entry (rows ++ (w ∷ [])) (k, length rows) (e ∷ es) w (more_last rows w)
    ∙ ap (λ z. (k, w) ∷ z) (entries_more rows (w ∷ []) (e ∷ es) a
    ∙ one_entry rows e es a.0.0 a.0.1.0)
add_at Equal rows w e es k a h =
    one_entry (rows ++ (w ∷ [])) (e.0, length rows) es w (more_last rows w)
    ∙ ap (λ z. (e.0, w) ∷ z) (entries_more rows (w ∷ []) es a.1)
add_at Greater rows w e es k a h =
    one_entry (rows ++ (w ∷ [])) e (with_last rows es k) a.0.0
    (more_same rows (w ∷ []) e.1 a.0.0 a.0.1.0)
    ∙ ap (λ z. (e.0, a.0.0) ∷ z) h

entries_added : (rows : List ListEvent) (w : ListEvent) (es : List ((ℕ × ℕ) × ℕ)) (k : ℕ × ℕ)
    → AreRowsAt rows es → row_entries (rows ++ (w ∷ [])) (with_last rows es k)
    ≡ insert_entry key_cmp (row_entries rows es) k w
entries_added rows w [] k a =
    one_entry (rows ++ (w ∷ [])) (k, length rows) [] w (more_last rows w)
entries_added rows w (e ∷ es) k a =
    add_at (key_cmp k e.0) rows w e es k a (entries_added rows w es k a.1)
    ∙ sym (ap (λ z. insert_entry key_cmp z k w) (one_entry rows e es a.0.0 a.0.1.0))

added_at : (o : Ordering) (rows : List ListEvent) (w : ListEvent) (e : (ℕ × ℕ) × ℕ)
    (es : List ((ℕ × ℕ) × ℕ)) → key_cmp (case_key w.case) e.0 ≡ o → AreRowsAt rows (e ∷ es)
    → AreRowsAt (rows ++ (w ∷ [])) (with_last rows es (case_key w.case))
    → AreRowsAt (rows ++ (w ∷ [])) (match_ordering o ((case_key w.case, length rows) ∷ e ∷ es)
    ((e.0, length rows) ∷ es) (e ∷ with_last rows es (case_key w.case)))
added_at Less rows w e es f a h =
    ((w, (more_last rows w, refl)), at_more rows (w ∷ []) (e ∷ es) a)
added_at Equal rows w e es f a h =
    ((w, (more_last rows w, sym (key_tie (case_key w.case) e.0 f))), at_more rows (w ∷ []) es a.1)
added_at Greater rows w e es f a h = ((at_more rows (w ∷ []) (e ∷ es) a).0, h)

rows_added : (rows : List ListEvent) (w : ListEvent) (es : List ((ℕ × ℕ) × ℕ)) → AreRowsAt rows es
    → AreRowsAt (rows ++ (w ∷ [])) (with_last rows es (case_key w.case))
rows_added rows w [] a = ((w, (more_last rows w, refl)), tt)
rows_added rows w (e ∷ es) a =
    added_at (key_cmp (case_key w.case) e.0) rows w e es refl a (rows_added rows w es a.1)

-- ---- another row at the place of a case

-- the key of a row, where there is one
abbrev key_or : ℕ × ℕ → Option ListEvent → ℕ × ℕ
key_or k None = k
key_or k (Some r) = case_key r.case

first_found : (o : Ordering) (rows : List ListEvent) (e : (ℕ × ℕ) × ℕ) (k : ℕ × ℕ) (p : ℕ)
    (rest : Option ℕ) (r : ListEvent) → key_cmp k e.0 ≡ o → slice_get rows e.1 ≡ Some r
    → e.0 ≡ case_key r.case → cond (is_eq o) (Some e.1) rest ≡ Some p
    → (rest ≡ Some p → (row : ListEvent) × ((slice_get rows p ≡ Some row)
    × (k ≡ case_key row.case)))
    → (row : ListEvent) × ((slice_get rows p ≡ Some row) × (k ≡ case_key row.case))
first_found Less rows e k p rest r f s t l h = h l
first_found Equal rows e k p rest r f s t l h =
    let same : e.1 ≡ p = ap (λ o. unwrap_or o p) l in
    (r, (ap (slice_get rows) (sym same) ∙ s, key_tie k e.0 f ∙ t))
first_found Greater rows e k p rest r f s t l h = h l

-- at the place that is found of a key stands a row of that key
found_row : (rows : List ListEvent) (es : List ((ℕ × ℕ) × ℕ)) (k : ℕ × ℕ) (p : ℕ)
    → AreRowsAt rows es → lookup (is_at (key_cmp k)) es ≡ Some p
    → (row : ListEvent) × ((slice_get rows p ≡ Some row) × (k ≡ case_key row.case))
found_row rows [] k p a l = cc
found_row rows (e ∷ es) k p a l =
    first_found (key_cmp k e.0) rows e k p (lookup (is_at (key_cmp k)) es) a.0.0 refl a.0.1.0
    a.0.1.1 l (found_row rows es k p a.1)

pub place_within : (rows : List ListEvent) (es : List ((ℕ × ℕ) × ℕ)) (k : ℕ × ℕ) (p : ℕ)
    → ArePlacedRows rows es → lookup (is_at (key_cmp k)) es ≡ Some p → p < length rows
place_within rows es k p a l =
    let found = found_row rows es k p a.are_at l in
    slice_get_within rows p found.0 found.1.0

all_after : (k first : ℕ × ℕ) (ks : List (ℕ × ℕ)) → key_cmp k first ≡ Less
    → AllByRecursion (λ y. key_cmp first y ≡ Less) ks → AllByRecursion (λ y. key_cmp k y ≡ Less) ks
all_after k first [] e a = tt
all_after k first (y ∷ ks) e a = (key_total.trans k first y e a.0, all_after k first ks e a.1)

none_after : (k : ℕ × ℕ) (es : List ((ℕ × ℕ) × ℕ))
    → AllByRecursion (λ y. key_cmp k y ≡ Less) (keys_of es)
    → lookup (is_at (key_cmp k)) es ≡ None
none_after k [] a = refl
none_after k (e ∷ es) a =
    ap (λ o. cond (is_eq o) (Some e.1) (lookup (is_at (key_cmp k)) es)) a.0 ∙ none_after k es a.1

-- a row is put in the place of another of the same key
record IsReplaced (rows : List ListEvent) (p : ℕ) (k : ℕ × ℕ) (w : ListEvent) : Type 0 where
  row : ListEvent
  stands : slice_get rows p ≡ Some row
  keyed : k ≡ case_key row.case
  same : k ≡ case_key w.case

apart_by : (rows : List ListEvent) (p : ℕ) (k : ℕ × ℕ) (w : ListEvent) (e : (ℕ × ℕ) × ℕ)
    (r : ListEvent) → IsReplaced rows p k w → slice_get rows e.1 ≡ Some r
    → e.0 ≡ case_key r.case → (key_cmp k e.0 ≡ Equal → ⊥)
    → (e.1 ≡ p) ⊎ (slice_get (set rows p w) e.1 ≡ slice_get rows e.1)
    → slice_get (set rows p w) e.1 ≡ Some r
apart_by rows p k w e r i s t other (inl h) =
    let one : Some r ≡ Some i.row = sym s ∙ (ap (slice_get rows) h ∙ i.stands) in
    let tied : e.0 ≡ k = t ∙ (ap (key_or k) one ∙ sym i.keyed) in
    absurd (other (ap (key_cmp k) tied ∙ tied_itself key_total k))
apart_by rows p k w e r i s t other (inr h) = h ∙ s

-- rows of other keys stay
apart : (rows : List ListEvent) (p : ℕ) (k : ℕ × ℕ) (w : ListEvent) (e : (ℕ × ℕ) × ℕ)
    (r : ListEvent) → IsReplaced rows p k w → slice_get rows e.1 ≡ Some r
    → e.0 ≡ case_key r.case → (key_cmp k e.0 ≡ Equal → ⊥)
    → slice_get (set rows p w) e.1 ≡ Some r
apart rows p k w e r i s t other = apart_by rows p k w e r i s t other (set_other rows p e.1 w)

never_less : (o : Ordering) → o ≡ Less → o ≡ Equal → ⊥
never_less Less e f = cc
never_less Equal e f = cc
never_less Greater e f = cc

never_greater : (o : Ordering) → o ≡ Greater → o ≡ Equal → ⊥
never_greater Less e f = cc
never_greater Equal e f = cc
never_greater Greater e f = cc

record AreSame (rows new : List ListEvent) (es : List ((ℕ × ℕ) × ℕ)) : Type 0 where
  entries : row_entries new es ≡ row_entries rows es
  are_at : AreRowsAt new es

all_apart : (rows : List ListEvent) (p : ℕ) (k : ℕ × ℕ) (w : ListEvent) (es : List ((ℕ × ℕ) × ℕ))
    → IsReplaced rows p k w → AreRowsAt rows es
    → AllByRecursion (λ y. key_cmp k y ≡ Less) (keys_of es) → AreSame rows (set rows p w) es
all_apart rows p k w [] i a b = record { entries = refl; are_at = tt }
all_apart rows p k w (e ∷ es) i a b =
    let first = apart rows p k w e a.0.0 i a.0.1.0 a.0.1.1 (never_less (key_cmp k e.0) b.0) in
    let rest = all_apart rows p k w es i a.1 b.1 in
    record {
      entries = one_entry (set rows p w) e es a.0.0 first
          ∙ (ap (λ z. (e.0, a.0.0) ∷ z) rest.entries ∙ sym (one_entry rows e es a.0.0 a.0.1.0));
      are_at = ((a.0.0, (first, a.0.1.1)), rest.are_at);
    }

-- the entries of rows of which one was replaced
record AreReplaced (rows : List ListEvent) (p : ℕ) (w : ListEvent) (es : List ((ℕ × ℕ) × ℕ))
    (entries : List ((ℕ × ℕ) × ListEvent)) : Type 0 where
  same : row_entries (set rows p w) es ≡ entries
  are_at : AreRowsAt (set rows p w) es

replace_at : (o : Ordering) (rows : List ListEvent) (p : ℕ) (k : ℕ × ℕ) (w : ListEvent)
    (e : (ℕ × ℕ) × ℕ) (es : List ((ℕ × ℕ) × ℕ)) → IsReplaced rows p k w
    → key_cmp k e.0 ≡ o → (a : AreRowsAt rows (e ∷ es))
    → AllByRecursion (λ y. key_cmp e.0 y ≡ Less) (keys_of es)
    → cond (is_eq o) (Some e.1) (lookup (is_at (key_cmp k)) es) ≡ Some p
    → (lookup (is_at (key_cmp k)) es ≡ Some p
    → AreReplaced rows p w es (insert_entry key_cmp (row_entries rows es) k w))
    → AreReplaced rows p w (e ∷ es) (match_ordering o
    ((k, w) ∷ (e.0, a.0.0) ∷ row_entries rows es) ((e.0, w) ∷ row_entries rows es)
    ((e.0, a.0.0) ∷ insert_entry key_cmp (row_entries rows es) k w))
replace_at Less rows p k w e es i f a b l h =
    let none = none_after k es (all_after k e.0 (keys_of es) f b) in
    let never : None ≡ Some p = sym none ∙ l in
    cc
replace_at Equal rows p k w e es i f a b l h =
    let tied : k ≡ e.0 = key_tie k e.0 f in
    let place : e.1 ≡ p = ap (λ o. unwrap_or o p) l in
    let rest = all_apart rows p k w es i a.1
    (subst (λ z. AllByRecursion (λ y. key_cmp z y ≡ Less) (keys_of es)) (sym tied) b) in
    let stands : slice_get (set rows p w) e.1 ≡ Some w =
    ap (slice_get (set rows p w)) place ∙ set_same rows p w i.row i.stands in
    record {
      same = one_entry (set rows p w) e es w stands ∙ ap (λ z. (e.0, w) ∷ z) rest.entries;
      are_at = ((w, (stands, sym tied ∙ i.same)), rest.are_at);
    }
replace_at Greater rows p k w e es i f a b l h =
    let first = apart rows p k w e a.0.0 i a.0.1.0 a.0.1.1 (never_greater (key_cmp k e.0) f) in
    let rest = h l in
    record {
      same = one_entry (set rows p w) e es a.0.0 first ∙ ap (λ z. (e.0, a.0.0) ∷ z) rest.same;
      are_at = ((a.0.0, (first, a.0.1.1)), rest.are_at);
    }

replaced : (rows : List ListEvent) (p : ℕ) (k : ℕ × ℕ) (w : ListEvent) (es : List ((ℕ × ℕ) × ℕ))
    → IsReplaced rows p k w → AreRowsAt rows es → IsStrictlySortedBy key_cmp (keys_of es)
    → lookup (is_at (key_cmp k)) es ≡ Some p
    → AreReplaced rows p w es (insert_entry key_cmp (row_entries rows es) k w)
unfolding IsStrictlySortedBy
replaced rows p k w [] i a s l = cc
replaced rows p k w (e ∷ es) i a s l =
    let done = replace_at (key_cmp k e.0) rows p k w e es i refl a s.0 l
    (replaced rows p k w es i a.1 s.1) in
    record {
      same = done.same
          ∙ sym (ap (λ z. insert_entry key_cmp z k w) (one_entry rows e es a.0.0 a.0.1.0));
      are_at = done.are_at;
    }

-- ---- each row has its place

there_first : (x : ℕ) (xs : List ℕ) → Contains (x ∷ xs) x
there_first x xs = Contains-append_left (x ∷ []) xs x (Contains-push [] x)

there_later : (y : ℕ) (xs : List ℕ) (x : ℕ) → Contains xs x → Contains (y ∷ xs) x
there_later y xs x c = Contains-append_right (y ∷ []) xs x c

pub nothing_there : {A : Type 0} (x : ℕ) → Contains [] x → A
nothing_there x c = absurd (omega (arith, c.1))

pub first_or_later : (y : ℕ) (xs : List ℕ) (x : ℕ) → Contains (y ∷ xs) x → (y ≡ x) ⊎ Contains xs x
first_or_later y xs x c =
    ⊎_elim (λ one. ⊎_elim (λ none. nothing_there x none) (λ e. inl e)
    (Contains-push_cases [] y x one))
    (λ later. inr later)
    (Contains-append_cases (y ∷ []) xs x c)

put_there : (o : Ordering) (e : (ℕ × ℕ) × ℕ) (es : List ((ℕ × ℕ) × ℕ)) (k : ℕ × ℕ) (p : ℕ)
    → Contains (values_of (insert_entry key_cmp es k p)) p
    → Contains (values_of (match_ordering o ((k, p) ∷ e ∷ es) ((e.0, p) ∷ es)
    (e ∷ insert_entry key_cmp es k p))) p
put_there Less e es k p h = there_first p (e.1 ∷ values_of es)
put_there Equal e es k p h = there_first p (values_of es)
put_there Greater e es k p h = there_later e.1 (values_of (insert_entry key_cmp es k p)) p h

-- a place that is put stands there
place_put : (es : List ((ℕ × ℕ) × ℕ)) (k : ℕ × ℕ) (p : ℕ)
    → Contains (values_of (insert_entry key_cmp es k p)) p
place_put [] k p = there_first p []
place_put (e ∷ es) k p = put_there (key_cmp k e.0) e es k p (place_put es k p)

stays_there : (o : Ordering) (e : (ℕ × ℕ) × ℕ) (es : List ((ℕ × ℕ) × ℕ)) (k : ℕ × ℕ) (p q : ℕ)
    → cond (is_eq o) (Some e.1) (lookup (is_at (key_cmp k)) es) ≡ None
    → Contains (e.1 ∷ values_of es) q
    → (lookup (is_at (key_cmp k)) es ≡ None → Contains (values_of es) q
    → Contains (values_of (insert_entry key_cmp es k p)) q)
    → Contains (values_of (match_ordering o ((k, p) ∷ e ∷ es) ((e.0, p) ∷ es)
    (e ∷ insert_entry key_cmp es k p))) q
stays_there Less e es k p q l c more = there_later p (e.1 ∷ values_of es) q c
stays_there Equal e es k p q l c more = cc
stays_there Greater e es k p q l c more =
    let rest = values_of (insert_entry key_cmp es k p) in
    ⊎_elim (λ first. subst (Contains (e.1 ∷ rest)) first (there_first e.1 rest))
    (λ later. there_later e.1 rest q (more l later))
    (first_or_later e.1 (values_of es) q c)

-- the places of before stay where a key is new
place_stays : (es : List ((ℕ × ℕ) × ℕ)) (k : ℕ × ℕ) (p q : ℕ)
    → lookup (is_at (key_cmp k)) es ≡ None → Contains (values_of es) q
    → Contains (values_of (insert_entry key_cmp es k p)) q
place_stays [] k p q l c = nothing_there q c
place_stays (e ∷ es) k p q l c =
    stays_there (key_cmp k e.0) e es k p q l c (place_stays es k p q)

have_more : (rows : List ListEvent) (w : ListEvent) (es : List ((ℕ × ℕ) × ℕ)) (k : ℕ × ℕ)
    → lookup (is_at (key_cmp k)) es ≡ None
    → ((q : ℕ) → q < length rows → Contains (values_of es) q)
    → (q : ℕ) → q < length (rows ++ (w ∷ [])) → Contains (values_of (with_last rows es k)) q
have_more rows w es k l all q lt =
    let long = length_push rows w in
    ⊎_elim (λ e. subst (Contains (values_of (with_last rows es k))) (sym e)
    (place_put es k (length rows)))
    (λ other. place_stays es k (length rows) q l (all q (omega (arith, lt, long, other))))
    (cases_eq q (length rows))

pub no_rows : ArePlacedRows [] []
unfolding IsStrictlySortedBy
no_rows = record {
  ascend = tt;
  are_at = tt;
  have_places = λ q lt. absurd (omega (arith, lt));
}

-- ---- a word that is put

-- rows and places with a word more
pub record IsRowPut (rows : List ListEvent) (es : List ((ℕ × ℕ) × ℕ)) (new : List ListEvent)
    (places : List ((ℕ × ℕ) × ℕ)) (word : ListEvent) : Type 0 where
  pub placed : ArePlacedRows new places
  pub values : placed_rows new (values_of places) ≡ put_row (placed_rows rows (values_of es)) word

put_values : (rows : List ListEvent) (es : List ((ℕ × ℕ) × ℕ)) (new : List ListEvent)
    (places : List ((ℕ × ℕ) × ℕ)) (w : ListEvent) → AreRowsAt rows es
    → row_entries new places ≡ insert_entry key_cmp (row_entries rows es) (case_key w.case) w
    → placed_rows new (values_of places) ≡ put_row (placed_rows rows (values_of es)) w
put_values rows es new places w a e =
    sym (entries_values new places)
    ∙ (ap values_of e
    ∙ (values_put (row_entries rows es) w (entries_keyed rows es a)
    ∙ ap (λ z. put_row z w) (entries_values rows es)))

-- a row that was found is replaced by a word
pub is_replaced : (rows new : List ListEvent) (es : List ((ℕ × ℕ) × ℕ)) (k : ℕ × ℕ) (p : ℕ)
    (v w : ListEvent) → ArePlacedRows rows es → k ≡ case_key w.case → v ≡ w
    → lookup (is_at (key_cmp k)) es ≡ Some p → new ≡ set rows p v → IsRowPut rows es new es w
is_replaced rows new es k p v w a e f l g =
    let found = found_row rows es k p a.are_at l in
    let at_word : new ≡ set rows p w = g ∙ ap (set rows p) f in
    let done = replaced rows p k w es
    (record { row = found.0; stands = found.1.0; keyed = found.1.1; same = e })
    a.are_at a.ascend l in
    subst (λ z. IsRowPut rows es z es w) (sym at_word)
    (record {
      placed = record {
        ascend = a.ascend;
        are_at = done.are_at;
        have_places = λ q lt. a.have_places q (subst (λ n. q < n) (length-set rows p w) lt);
      };
      values = put_values rows es (set rows p w) es w a.are_at
          (done.same ∙ ap (λ z. insert_entry key_cmp (row_entries rows es) z w) e);
    })

-- a word of a case that is not among the rows comes behind them
pub is_added : (rows new : List ListEvent) (es places : List ((ℕ × ℕ) × ℕ)) (k : ℕ × ℕ) (n : ℕ)
    (v w : ListEvent) → ArePlacedRows rows es → k ≡ case_key w.case → v ≡ w
    → lookup (is_at (key_cmp k)) es ≡ None → n ≡ length rows
    → new ≡ rows ++ (v ∷ []) → places ≡ insert_entry key_cmp es k n
    → IsStrictlySortedBy key_cmp (keys_of places) → IsRowPut rows es new places w
is_added rows new es places k n v w a e f l h g m s =
    let rows_is : new ≡ rows ++ (w ∷ []) = g ∙ ap (λ z. rows ++ (z ∷ [])) f in
    let places_is : places ≡ with_last rows es (case_key w.case) =
    m ∙ (ap (λ z. insert_entry key_cmp es z n) e
    ∙ ap (insert_entry key_cmp es (case_key w.case)) h) in
    record {
      placed = record {
        ascend = s;
        are_at = subst (λ z. AreRowsAt z places) (sym rows_is)
            (subst (AreRowsAt (rows ++ (w ∷ []))) (sym places_is)
            (rows_added rows w es a.are_at));
        have_places = λ q lt. subst (λ z. Contains (values_of z) q) (sym places_is)
            (have_more rows w es (case_key w.case)
            (subst (λ z. lookup (is_at (key_cmp z)) es ≡ None) e l) a.have_places q
            (subst (λ z. q < length z) rows_is lt));
      };
      values = put_values rows es new places w a.are_at
          (ap (λ z. row_entries z places) rows_is
          ∙ (ap (row_entries (rows ++ (w ∷ []))) places_is
          ∙ entries_added rows w es (case_key w.case) a.are_at));
    }

-- ---- walks along the places

rows_next : (rows : List ListEvent) (left ps : List ℕ) (p : ℕ) (o : Option ListEvent)
    → left ≡ p ∷ ps → o ≡ slice_get rows p
    → placed_rows rows left ≡ with_found o (placed_rows rows ps)
rows_next rows left ps p o e f =
    ap (placed_rows rows) e ∙ sym (ap (λ z. with_found z (placed_rows rows ps)) f)

map_more : {X : Type 0} (v : X → ListEvent) (found : List X) (x : X) (rest : List ListEvent)
    → map v (found ++ (x ∷ [])) ++ rest ≡ map v found ++ (v x ∷ rest)
map_more v [] x rest = refl
map_more v (y ∷ ys) x rest = ap (λ z. v y ∷ z) (map_more v ys x rest)

-- a row was found at the next place
pub row_more : {X : Type 0} (v : X → ListEvent) (found new : List X) (x : X)
    (rows all : List ListEvent) (left ps : List ℕ) (p : ℕ) → new ≡ found ++ (x ∷ [])
    → map v found ++ placed_rows rows left ≡ all → left ≡ p ∷ ps → Some (v x) ≡ slice_get rows p
    → map v new ++ placed_rows rows ps ≡ all
row_more v found new x rows all left ps p g h e f =
    ap (λ z. map v z ++ placed_rows rows ps) g
    ∙ (map_more v found x (placed_rows rows ps)
    ∙ (ap (λ z. map v found ++ z) (sym (rows_next rows left ps p (Some (v x)) e f)) ∙ h))

-- none was found there
pub none_more : (found all : List ListEvent) (rows : List ListEvent) (left ps : List ℕ) (p : ℕ)
    → found ++ placed_rows rows left ≡ all → left ≡ p ∷ ps → None ≡ slice_get rows p
    → found ++ placed_rows rows ps ≡ all
none_more found all rows left ps p h e f =
    ap (λ z. found ++ z) (sym (rows_next rows left ps p None e f)) ∙ h
