-- Rows with the keys of their cases, in the order of keys.
use Rattle.std.proofs.Common.{◌≡◌, ℕ, cond, List, [], ◌∷◌, map, refl, sym, ap, ◌∙◌, subst, Some}
use Rattle.std.specs.declared.cmp.Ordering.{Ordering}
use Rattle.std.specs.declared.cmp.Ordering.TheVariants.{Less, Equal, Greater}
use Rattle.std.specs.Ordering.{match_ordering, is_eq}
use Rattle.std.specs.List.{AllByRecursion}
use Rattle.std.specs.List.Sorted.{IsStrictlySortedBy}
use Rattle.std.specs.Map.{keys_of, values_of, lookup}
use Rattle.std.specs.BTreeMap.{insert_entry, is_at}
use Rattle.fm_entry.specs.declared.case_name.CaseName.{CaseName}
use Rattle.fm_entry.specs.declared.list_event.ListEvent.{ListEvent}
use Rattle.fm_status.specs.Rows.{case_cmp, case_key, case_row, key_cmp, put_row}

-- each row stands at the key of its case
abbrev pub AreKeyed : List ((ℕ × ℕ) × ListEvent) → Type 0
AreKeyed [] = Unit {0}
AreKeyed (entry ∷ entries) = (entry.0 ≡ case_key entry.1.case) × AreKeyed entries

put_at : (o : Ordering) (e : (ℕ × ℕ) × ListEvent) (es : List ((ℕ × ℕ) × ListEvent)) (k : ℕ × ℕ)
    (w : ListEvent) → values_of (insert_entry key_cmp es k w) ≡ put_row (values_of es) w
    → values_of (match_ordering o
    ((k, w) ∷ e ∷ es) ((e.0, w) ∷ es) (e ∷ insert_entry key_cmp es k w))
    ≡ match_ordering o
    (w ∷ e.1 ∷ values_of es) (w ∷ values_of es) (e.1 ∷ put_row (values_of es) w)
put_at Less e es k w h = refl
put_at Equal e es k w h = refl
put_at Greater e es k w h = ap (λ r. e.1 ∷ r) h

-- an insert at the key of its case puts the row
pub values_put : (es : List ((ℕ × ℕ) × ListEvent)) (w : ListEvent) → AreKeyed es
    → values_of (insert_entry key_cmp es (case_key w.case) w) ≡ put_row (values_of es) w
values_put [] w h = refl
values_put (e ∷ es) w h =
    let k = case_key w.case in
    let same : key_cmp k e.0 ≡ case_cmp w.case e.1.case = ap (key_cmp k) h.0 in
    ap (λ o. values_of (match_ordering o
    ((k, w) ∷ e ∷ es) ((e.0, w) ∷ es) (e ∷ insert_entry key_cmp es k w))) same
    ∙ put_at (case_cmp w.case e.1.case) e es k w (values_put es w h.1)

-- what is found at the key of a case is its row
pub row_found : (es : List ((ℕ × ℕ) × ListEvent)) (c : CaseName) → AreKeyed es
    → lookup (is_at (key_cmp (case_key c))) es ≡ case_row c (values_of es)
row_found [] c h = refl
row_found (e ∷ es) c h =
    ap (λ k. cond (is_eq (key_cmp (case_key c) k)) (Some e.1)
    (lookup (is_at (key_cmp (case_key c))) es)) h.0
    ∙ ap (λ r. cond (is_eq (case_cmp c e.1.case)) (Some e.1) r) (row_found es c h.1)

all_below : (es : List ((ℕ × ℕ) × ListEvent)) (c : CaseName) → AreKeyed es
    → AllByRecursion (λ y. key_cmp (case_key c) y ≡ Less) (keys_of es)
    → AllByRecursion (λ y. case_cmp c y ≡ Less) (map (λ row. row.case) (values_of es))
all_below [] c h a = tt
all_below (e ∷ es) c h a =
    (sym (ap (key_cmp (case_key c)) h.0) ∙ a.0, all_below es c h.1 a.1)

-- rows in the order of their keys are in the order of cases
pub rows_ascend : (es : List ((ℕ × ℕ) × ListEvent)) → AreKeyed es
    → IsStrictlySortedBy key_cmp (keys_of es)
    → IsStrictlySortedBy case_cmp (map (λ row. row.case) (values_of es))
unfolding IsStrictlySortedBy
rows_ascend [] h s = tt
rows_ascend (e ∷ es) h s =
    let first = subst (λ z. AllByRecursion (λ y. key_cmp z y ≡ Less) (keys_of es)) h.0 s.0 in
    (all_below es e.1.case h.1 first, rows_ascend es h.1 s.1)
