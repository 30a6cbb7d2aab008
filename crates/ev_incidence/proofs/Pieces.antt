-- Lists that stand one behind the other.
use Rattle.std.proofs.Common.{◌≡◌, ◌^◌, ◌+◌, ◌-◌, ◌<◌, ◌≤◌, ◌++◌, ℕ, zero, suc, List, [], ◌∷◌}
use Rattle.std.proofs.Common.{length, get_or, take, drop, refl, sym, ap, subst, ◌∙◌, arith, inl}
use Rattle.std.proofs.Common.{inr, length-append, length-drop}
use Rattle.std.proofs.lemmas.List.{drop-append-le, take-append-le, drop_at}
use Rattle.std.proofs.lemmas.List.{take_all, get_or_append_left, get_or_push, get_or_past}
use Rattle.std.proofs.lemmas.List.{length_push}
use Rattle.std.proofs.lemmas.Bool.{cases_lt, cases_eq}
use Rattle.ev_incidence.specs.Table.{pieces, pieces_from, row_at, AreBounds}

length_from : (items : List ℕ) (from : ℕ) (bounds : List ℕ)
    → length (pieces_from items from bounds) ≡ length bounds
length_from items from [] = refl
length_from items from (to ∷ bounds) = ap suc (length_from items to bounds)

pub length_pieces : (items bounds : List ℕ) → 0 < length bounds
    → length (pieces items bounds) + 1 ≡ length bounds
length_pieces items [] l = absurd (omega (arith, l))
length_pieces items (from ∷ bounds) l = omega (arith, length_from items from bounds)

row_from : (items : List ℕ) (from : ℕ) (bounds : List ℕ) (i : ℕ) → i < length bounds
    → row_at (pieces_from items from bounds) i
    ≡ take (get_or bounds i 0 - get_or (from ∷ bounds) i 0)
    (drop (get_or (from ∷ bounds) i 0) items)
row_from items from [] i l = absurd (omega (arith, l))
row_from items from (to ∷ bounds) zero l = refl
row_from items from (to ∷ bounds) (suc i) l = row_from items to bounds i (omega (arith, l))

pub row_within : (items bounds : List ℕ) (i j : ℕ) → j ≡ suc i → j < length bounds
    → row_at (pieces items bounds) i
    ≡ take (get_or bounds j 0 - get_or bounds i 0) (drop (get_or bounds i 0) items)
row_within items [] i j e l = absurd (omega (arith, l))
row_within items (from ∷ bounds) i j e l =
    let P : ℕ → Type 0 = λ n. row_at (pieces_from items from bounds) i
    ≡ take (get_or (from ∷ bounds) n 0 - get_or (from ∷ bounds) i 0)
    (drop (get_or (from ∷ bounds) i 0) items) in
    subst P (sym e) (row_from items from bounds i (omega (arith, e, l)))

pub row_past : (rows : List (List ℕ)) (i : ℕ) → length rows ≤ i → row_at rows i ≡ []
row_past rows i l = get_or_past rows i [] l

push_from : (items row : List ℕ) (from : ℕ) (bounds : List ℕ) (end : ℕ)
    → ((i j : ℕ) → j ≡ suc i → j < suc (length bounds)
    → get_or (from ∷ bounds) i 0 ≤ get_or (from ∷ bounds) j 0)
    → ((i : ℕ) → get_or (from ∷ bounds) i 0 ≤ length items)
    → get_or (from ∷ bounds) (length bounds) 0 ≡ length items
    → end ≡ length items + length row
    → pieces_from (items ++ row) from (bounds ++ end ∷ []) ≡ pieces_from items from bounds
    ++ row ∷ []
push_from items row from [] end rise within last e =
    let same : length items ≡ from = sym last in
    let n : end - from ≡ length row = omega (arith, same, e) in
    ap (λ (xs : List ℕ). xs ∷ [])
    (ap (λ (xs : List ℕ). take (end - from) xs) (drop_at items row from same)
    ∙ take_all (end - from) row (omega (arith, n)))
push_from items row from (to ∷ bounds) end rise within last e =
    let up : from ≤ to = rise 0 1 refl (omega arith) in
    let low : from ≤ length items = within 0 in
    let high : to ≤ length items = within 1 in
    let one : take (to - from) (drop from (items ++ row)) ≡ take (to - from) (drop from items) =
    ap (λ (xs : List ℕ). take (to - from) xs) (drop-append-le from items row low)
    ∙ take-append-le (to - from) (drop from items) row
    (omega (arith, length-drop from items, high)) in
    let more = push_from items row to bounds end
    (λ i j f l. rise (suc i) (suc j) (ap suc f) (omega (arith, l))) (λ i. within (suc i)) last e
    in
    ap (λ (xs : List ℕ). xs ∷ pieces_from (items ++ row) to (bounds ++ end ∷ [])) one
    ∙ ap (λ (xs : List (List ℕ)). take (to - from) (drop from items) ∷ xs) more

pub push_pieces : (items row bounds : List ℕ) (end : ℕ) → AreBounds items bounds
    → end ≡ length items + length row
    → pieces (items ++ row) (bounds ++ end ∷ []) ≡ pieces items bounds ++ row ∷ []
push_pieces items row [] end h e = absurd (omega (arith, h.some))
push_pieces items row (from ∷ bounds) end h e =
    let same : suc (length bounds) - 1 ≡ length bounds = omega arith in
    let P : ℕ → Type 0 = λ n. get_or (from ∷ bounds) n 0 ≡ length items in
    push_from items row from bounds end h.rise h.within (subst P same h.last) e

pub bounds_more : (items row bounds : List ℕ) (end : ℕ) → AreBounds items bounds
    → end ≡ length items + length row → length bounds < 2 ^ 32
    → AreBounds (items ++ row) (bounds ++ end ∷ [])
bounds_more items row bounds end h e few =
    let n = length_push bounds end in
    let m = length-append items row in
    let at_end : get_or (bounds ++ end ∷ []) (length bounds) 0 ≡ end =
    get_or_push bounds end 0 (length bounds) refl in
    let old : (i : ℕ) → i < length bounds → get_or (bounds ++ end ∷ []) i 0 ≡ get_or bounds i 0 =
    λ i l. get_or_append_left bounds (end ∷ []) 0 i l in
    record {
      some = omega (arith, n);
      first = old 0 h.some ∙ h.first;
      last = (let same : length (bounds ++ end ∷ []) - 1 ≡ length bounds = omega (arith, n) in
          let P : ℕ → Type 0 = λ k. get_or (bounds ++ end ∷ []) k 0 ≡ length (items ++ row) in
          subst P (sym same) (at_end ∙ (e ∙ sym m)));
      few = omega (arith, n, few);
      rise = λ i j f l. elim (cases_lt j (length bounds)) [
        | inl lt ↦ omega (arith, old i (omega (arith, f, lt)), old j lt, h.rise i j f lt)
        | inr ge ↦
            let same : j ≡ length bounds = omega (arith, l, n, ge) in
            let P : ℕ → Type 0 = λ k. get_or (bounds ++ end ∷ []) i 0
            ≤ get_or (bounds ++ end ∷ []) k 0 in
            subst P (sym same) (omega (
              arith,
              old i (omega (arith, f, same)),
              at_end,
              h.within i,
              e,
            ))
      ];
      within = λ i. elim (cases_lt i (length bounds)) [
        | inl lt ↦ omega (arith, old i lt, h.within i, m)
        | inr ge ↦ elim (cases_eq i (length bounds)) [
          | inl same ↦ let P : ℕ
              → Type 0 = λ k. get_or (bounds ++ end ∷ []) k 0 ≤ length (items ++ row) in
              subst P (sym same) (omega (arith, at_end, m, e))
          | inr ne ↦ omega (arith, get_or_past (bounds ++ end ∷ []) i 0 (omega (arith, n, ge, ne)))
        ]
      ];
    }
