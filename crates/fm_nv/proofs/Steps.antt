-- One step of a loop over the pairs of a list, or over the items of an array.
use Rattle.std.proofs.Common.{◌≡◌, ℕ, suc, ◌+◌, ◌<◌, ◌≤◌, IsTrue, List, ◌∷◌, ◌++◌, length, get_or}
use Rattle.std.proofs.Common.{drop, nat_le, sym, ap, ◌∙◌, arith, append_assoc, subst, drop-cons}
use Rattle.std.proofs.lemmas.List.{append-nil, drop_all}
use Rattle.fm_nv.specs.Data.{Pairs, Data, pair, lists_of, count, from, name_at, value_at}
use Rattle.std.proofs.lemmas.Bool.{leb-true}
use Rattle.fm_bytes.proofs.Booleans.{and_parts}
use Rattle.fm_nv.specs.Spelled.{is_counted, list_fits, is_pair_name, value_fits, pairs_fit}
use Rattle.fm_nv.specs.Spelled.{name_bytes, value_bytes, body_bytes, lists_bytes, pairs_bytes}
use Rattle.fm_nv.proofs.Places.{from_step, from_past}

-- the items from a place on
pub drop_item : {A : Type 0} (xs : List A) (i : ℕ) (x : A) → i < length xs → x ≡ get_or xs i x
    → drop i xs ≡ x ∷ drop (i + 1) xs
drop_item xs i x h e =
    let next : suc i ≡ i + 1 = omega arith in
    let front : get_or xs i x ∷ drop (suc i) xs ≡ x ∷ drop (i + 1) xs =
    λ j. sym e j ∷ drop (next j) xs in
    drop-cons xs i x h ∙ front

-- the pair at a place has a spelling, and so have those behind it
pub fit_at : (ps : Pairs) (i : ℕ) → i < count ps → IsTrue (pairs_fit (from i ps))
    → IsTrue (is_pair_name (name_at i ps)) × IsTrue (value_fits (value_at i ps))
    × IsTrue (pairs_fit (from (i + 1) ps))
fit_at ps i h fits =
    let all : IsTrue (pairs_fit (pair (name_at i ps) (value_at i ps) (from (i + 1) ps))) =
    subst (λ (qs : Pairs). IsTrue (pairs_fit qs)) (from_step ps i h) fits in
    let one = and_parts (is_pair_name (name_at i ps)) _ all in
    let two = and_parts (value_fits (value_at i ps)) _ one.1 in
    (one.0, two.0, two.1)

-- what is written and what is left is the whole, after one item more
pub push_item : (out new item rest all : List ℕ) → out ++ (item ++ rest) ≡ all → new ≡ out ++ item
    → new ++ rest ≡ all
push_item out new item rest all h e = ap (λ (xs : List ℕ). xs ++ rest) e
    ∙ append_assoc out item rest ∙ h

-- the pair at a place is written
pub push_pair : (ps : Pairs) (i : ℕ) (k : List ℕ) (d : Data) (out new all : List ℕ) → i < count ps
    → k ≡ name_at i ps → d ≡ value_at i ps
    → out ++ body_bytes (from i ps) ≡ all → new ≡ out ++ (name_bytes k ++ value_bytes d)
    → new ++ body_bytes (from (i + 1) ps) ≡ all
push_pair ps i k d out new all h name value before step =
    push_item out new _ _ all (ap (λ (qs : Pairs). out ++ body_bytes qs) (sym (from_step ps i h))
    ∙ before)
    (step ∙ (λ j. out ++ (name_bytes (name j) ++ value_bytes (value j))))

-- nothing is left past the end
pub pushed_all : (ps : Pairs) (i : ℕ) (out all : List ℕ) → count ps ≤ i
    → out ++ body_bytes (from i ps) ≡ all → out ≡ all
pushed_all ps i out all h before =
    sym (append-nil out) ∙ ap (λ (qs : Pairs). out ++ body_bytes qs) (sym (from_past ps i h))
    ∙ before

-- the list at a place is written
pub push_list : (xs : List Pairs) (i : ℕ) (p : Pairs) (out new all : List ℕ) → i < length xs
    → p ≡ get_or xs i p
    → out ++ lists_bytes (lists_of (drop i xs)) ≡ all
    → new ≡ out ++ pairs_bytes p
    → new ++ lists_bytes (lists_of (drop (i + 1) xs)) ≡ all
push_list xs i p out new all h e before step =
    push_item out new _ _ all
    (ap (λ (ps : List Pairs). out ++ lists_bytes (lists_of ps)) (sym (drop_item xs i p h e))
    ∙ before) step

-- nothing is left past the end
pub pushed_lists : (xs : List Pairs) (i : ℕ) (out all : List ℕ) → length xs ≤ i
    → out ++ lists_bytes (lists_of (drop i xs)) ≡ all → out ≡ all
pushed_lists xs i out all h before =
    sym (append-nil out) ∙ ap (λ (ys : List Pairs). out ++ lists_bytes (lists_of ys))
    (sym (drop_all i xs h)) ∙ before

-- a list that has a spelling has at most 65,535 pairs
pub count_bound : (ps : Pairs) → IsTrue (list_fits ps) → count ps ≤ 65535
count_bound ps h =
    let counted = and_parts (is_counted ps) _ h in
    let few = and_parts (nat_le (count ps) 65535) _ counted.0 in
    leb-true _ _ few.0
