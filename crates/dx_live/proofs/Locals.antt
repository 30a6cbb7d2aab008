-- Rows by local numbers, one member and one row after the other.
use Rattle.std.proofs.Common.{◌≡◌, ◌+◌, ◌<◌, ◌++◌, ℕ, true, false, cond, List, []}
use Rattle.std.proofs.Common.{◌∷◌}
use Rattle.std.proofs.Common.{length, take, get_or, refl, sym, ap, subst, ◌∙◌, arith, inl, inr}
use Rattle.std.specs.List.{filter}
use Rattle.std.proofs.lemmas.List.{map_push, append-nil, length_push, get_or_push}
use Rattle.std.proofs.lemmas.List.{get_or_append_left, get_or_past}
use Rattle.std.proofs.lemmas.List.Elements.{filter_more}
use Rattle.std.proofs.lemmas.Bool.{cases_eq, cases_lt, cond-true, cond-false, false≢true}
use Rattle.std.proofs.Common.{◌-◌, ◌≤◌}
use Rattle.ev_incidence.specs.Sets.{is_member, ascends}
use Rattle.ev_incidence.proofs.Ascending.{rises}
use Rattle.ev_incidence.specs.Table.{row_at, AreRowsBelow}
use Rattle.ev_incidence.proofs.Occurrences.{in_at, in_push}
use Rattle.dx_live.specs.Region.{IsLocalRow, AreLocalRows}

pub row_none : (nodes : List ℕ) → IsLocalRow nodes [] []
row_none nodes = record { named = refl; below = λ l i. absurd (false≢true i) }

module _ (nodes members row : List ℕ) (i : ℕ) (l : i < length members)
    (h : IsLocalRow nodes (take i members) row) where
  abbrev x : ℕ
  x = get_or members i 0

  more : filter (is_member nodes) (take (i + 1) members)
      ≡ filter (is_member nodes) (take i members) ++ cond (is_member nodes x) (x ∷ []) []
  more = filter_more (is_member nodes) members i 0 l

  pub row_found : (at : ℕ) → at < length nodes → get_or nodes at 0 ≡ x
      → IsLocalRow nodes (take (i + 1) members) (row ++ at ∷ [])
  row_found at low is =
      let there : is_member nodes x ≡ true =
      let P : ℕ → Type 0 = λ y. is_member nodes y ≡ true in subst P is (in_at nodes at low) in
      let old = filter (is_member nodes) (take i members) in
      record {
        named = map_push (λ n. get_or nodes n 0) row at
            ∙ (ap (λ (xs : List ℕ). xs ++ get_or nodes at 0 ∷ []) h.named
            ∙ (ap (λ (y : ℕ). old ++ y ∷ []) is
            ∙ (ap (λ (xs : List ℕ). old ++ xs)
            (sym (cond-true {A = List ℕ} (is_member nodes x) (x ∷ []) [] there)) ∙ sym more)));
        below = λ n n_in. elim (in_push row at n n_in) [
          | inl old_in ↦ h.below n old_in
          | inr same ↦ omega (arith, low, same)
        ];
      }

  pub row_missed : is_member nodes x ≡ false → IsLocalRow nodes (take (i + 1) members) row
  row_missed away = record {
    named =
        let old = filter (is_member nodes) (take i members) in
        h.named ∙ (sym (append-nil old) ∙ (ap (λ (xs : List ℕ). old ++ xs)
        (sym (cond-false {A = List ℕ} (is_member nodes x) (x ∷ []) [] away)) ∙ sym more));
    below = h.below;
  }

pub rows_none : (rows : List (List ℕ)) (nodes places : List ℕ) → AreLocalRows 0 rows nodes places []
rows_none rows nodes places = record { count = refl; each = λ t l. absurd (omega (arith, l)) }

pub rows_push : (n : ℕ) (rows : List (List ℕ)) (nodes places : List ℕ) (locals : List (List ℕ))
    (row : List ℕ) → AreLocalRows n rows nodes places locals
    → IsLocalRow nodes (row_at rows (get_or places n 0)) row
    → AreLocalRows (n + 1) rows nodes places (locals ++ row ∷ [])
rows_push n rows nodes places locals row h r = record {
  count = omega (arith, length_push locals row, h.count);
  each = λ t l. elim (cases_eq t n) [
    | inl same ↦
        let P : ℕ → Type 0 = λ z. IsLocalRow nodes (row_at rows (get_or places z 0))
        (row_at (locals ++ row ∷ []) z) in
        let Q : List ℕ → Type 0 = λ xs. IsLocalRow nodes (row_at rows (get_or places n 0)) xs in
        subst P (sym same) (subst Q (sym (get_or_push locals row [] n h.count)) r)
    | inr ne ↦
        let Q : List ℕ → Type 0 = λ xs. IsLocalRow nodes (row_at rows (get_or places t 0)) xs in
        let low : t < length locals = omega (arith, l, ne, h.count) in
        subst Q (sym (get_or_append_left locals (row ∷ []) [] t low))
        (h.each t (omega (arith, l, ne)))
  ];
}

-- each local number is one of the nodes
pub rows_below : (n : ℕ) (rows : List (List ℕ)) (nodes places : List ℕ) (locals : List (List ℕ))
    → AreLocalRows n rows nodes places locals → AreRowsBelow (length nodes) locals
rows_below n rows nodes places locals h j i l = elim (cases_lt j n) [
  | inl low ↦ (h.each j low).below (get_or (row_at locals j) i 0) (in_at (row_at locals j) i l)
  | inr past ↦
      let none : row_at locals j ≡ [] = get_or_past locals j [] (omega (arith, past, h.count)) in
      absurd (omega (arith, l, ap length none))
]

-- ascending numbers are no more than the last
pub last_most : (nodes : List ℕ) (i : ℕ) → ascends nodes ≡ true → i < length nodes
    → get_or nodes i 0 ≤ get_or nodes (length nodes - 1) 0
last_most nodes i up low = elim (cases_eq (i + 1) (length nodes)) [
  | inl last ↦ omega (
    arith,
    ap (λ (n : ℕ). get_or nodes (n - 1) 0) last,
    ap (λ (n : ℕ). get_or nodes n 0) (back i),
  )
  | inr ne ↦ omega (
    arith,
    rises nodes i (length nodes - 1) up (omega (arith, low, ne))
        (omega (arith, low)),
  )
] where
  back : (n : ℕ) → n + 1 - 1 ≡ n
  back n = omega arith
