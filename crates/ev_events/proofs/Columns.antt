-- Columns of a pattern: they rise, they are of its iterators, and each of these has one.
use Rattle.std.proofs.Common.{◌≡◌, ◌<◌, ◌≤◌, ◌+◌, ◌||◌, ◌==◌, ℕ, suc, Bool, true, false, nat_lt}
use Rattle.std.proofs.Common.{List}
use Rattle.std.proofs.Common.{[], ◌∷◌, map, fold, slice_get, Option, Some, None, refl, sym, ap, ◌∙◌}
use Rattle.std.proofs.Common.{arith, zero, inl, inr, subst}
use Rattle.std.specs.Bool.{⊤}
use Rattle.std.specs.List.{list_any}
use Rattle.std.proofs.lemmas.Bool.{cases_Bool, eq-eqb, eqb-true, ltb-true, false≢true, or_right}
use Rattle.std.proofs.lemmas.Grind.{common_steps}
use Rattle.std.proofs.lemmas.Option.{same_Some}
use Rattle.ev_join.specs.Tables.{RisesFrom}
use Rattle.ev_tree.specs.declared.tree.Part.{Part}
use Rattle.ev_events.specs.Names.{iterator_of}
use Rattle.ev_events.specs.Slots.{column_of, with_column, with_column_if, columns_of}
use Rattle.ev_events.specs.declared.slots.Column.{Column}
use Rattle.ev_events.proofs.Places.{none_is_not}

abbrev pub number_in : Column → ℕ
number_in c = c.number

-- P holds of each column
abbrev pub Each : (Column → Type 0) → List Column → Type 0
Each P [] = ⊤
Each P (c ∷ cs) = P c × Each P cs

pub each_at : (P : Column → Type 0) (cs : List Column) (i : ℕ) (c : Column)
    → slice_get cs i ≡ Some c → Each P cs → P c
each_at P [] i c s h = none_is_not c s
each_at P (d ∷ cs) zero c s h = subst P (same_Some d c s) h.0
each_at P (d ∷ cs) (suc i) c s h = each_at P cs i c s h.1

-- ---- one more column
rises_with : (low : ℕ) (cs : List Column) (c : Column) → RisesFrom low (map number_in cs)
    → low ≤ c.number → RisesFrom low (map number_in (with_column cs c))
rises_with low [] c h le = (le, tt)
rises_with low (d ∷ ds) c h le = elim (cases_Bool (nat_lt c.number d.number)) [
  | inl so ↦
      let less : c.number < d.number = ltb-true c.number d.number so in
      rw so (le, (omega (arith, less), h.1))
  | inr not_so ↦ elim (cases_Bool (c.number == d.number)) [
    | inl same ↦ rw (not_so, same) h
    | inr other ↦
        let more : d.number + 1 ≤ c.number = grind (arith, common_steps, not_so, other) in
        rw (not_so, other) (h.0, rises_with (d.number + 1) ds c h.1 more)
  ]
]

each_with : (P : Column → Type 0) (cs : List Column) (c : Column) → Each P cs → P c
    → Each P (with_column cs c)
each_with P [] c h own = (own, tt)
each_with P (d ∷ ds) c h own = elim (cases_Bool (nat_lt c.number d.number)) [
  | inl so ↦ rw so (own, h)
  | inr not_so ↦ elim (cases_Bool (c.number == d.number)) [
    | inl same ↦ rw (not_so, same) h
    | inr other ↦ rw (not_so, other) (h.0, each_with P ds c h.1 own)
  ]
]

-- some column has the number
abbrev pub has_number : ℕ → List Column → Bool
has_number n cs = list_any (λ (c : Column). c.number == n) cs

number_with : (cs : List Column) (c : Column) → has_number c.number (with_column cs c) ≡ true
number_with [] c = ap (λ (b : Bool). b || false) (eq-eqb c.number c.number refl)
number_with (d ∷ ds) c = elim (cases_Bool (nat_lt c.number d.number)) [
  | inl so ↦
      rw so (ap (λ (b : Bool). b || has_number c.number (d ∷ ds)) (eq-eqb c.number c.number refl))
  | inr not_so ↦ elim (cases_Bool (c.number == d.number)) [
    | inl same ↦
        let is : (d.number == c.number) ≡ true =
        eq-eqb d.number c.number (sym (eqb-true c.number d.number same)) in
        rw (not_so, same) (ap (λ (b : Bool). b || has_number c.number ds) is)
    | inr other ↦
        rw (not_so, other)
        (or_right (d.number == c.number) _ (number_with ds c))
  ]
]

number_stays : (n : ℕ) (cs : List Column) (c : Column) → has_number n cs ≡ true
    → has_number n (with_column cs c) ≡ true
number_stays n [] c h = absurd (false≢true h)
number_stays n (d ∷ ds) c h = elim (cases_Bool (nat_lt c.number d.number)) [
  | inl so ↦ rw so (or_right (c.number == n) _ h)
  | inr not_so ↦ elim (cases_Bool (c.number == d.number)) [
    | inl same ↦ rw (not_so, same) h
    | inr other ↦ rw (not_so, other) (elim (cases_Bool (d.number == n)) [
      | inl is ↦ ap (λ (b : Bool). b || has_number n (with_column ds c)) is
      | inr is_not ↦
          or_right (d.number == n) _ (number_stays n ds c
          (sym (ap (λ (b : Bool). b || has_number n ds) is_not) ∙ h))
    ])
  ]
]

-- ---- the columns of parts
module _ (vs : List (List ℕ)) (parts : List Part) where
  abbrev step : List Column → Part → List Column
  step cs p = with_column_if vs parts cs (iterator_of p)

  rises_if : (cs : List Column) (o : Option (List ℕ)) → RisesFrom 0 (map number_in cs)
      → RisesFrom 0 (map number_in (with_column_if vs parts cs o))
  rises_if cs None h = h
  rises_if cs (Some v) h = rises_with 0 cs (column_of vs parts v) h (omega arith)

  rises_all : (ps : List Part) (cs : List Column) → RisesFrom 0 (map number_in cs)
      → RisesFrom 0 (map number_in (fold step cs ps))
  rises_all [] cs h = h
  rises_all (p ∷ ps) cs h = rises_all ps (step cs p) (rises_if cs (iterator_of p) h)

  pub columns_rise : RisesFrom 0 (map number_in (columns_of vs parts))
  columns_rise = rises_all parts [] tt

  -- the column of an iterator that some part has
  pub record IsColumn (c : Column) : Type 0 where
    pub place : ℕ
    pub part : Part
    pub name : List ℕ
    pub stands : slice_get parts place ≡ Some part
    pub has : iterator_of part ≡ Some name
    pub is : c ≡ column_of vs parts name

  each_if : (cs : List Column) (o : Option (List ℕ)) → Each IsColumn cs
      → ((v : List ℕ) → o ≡ Some v → IsColumn (column_of vs parts v))
      → Each IsColumn (with_column_if vs parts cs o)
  each_if cs None h own = h
  each_if cs (Some v) h own = each_with IsColumn cs (column_of vs parts v) h (own v refl)

  each_all : (ps : List Part) (from : ℕ) (cs : List Column)
      → ((i : ℕ) (p : Part) → slice_get ps i ≡ Some p → slice_get parts (from + i) ≡ Some p)
      → Each IsColumn cs → Each IsColumn (fold step cs ps)
  each_all [] from cs at h = h
  each_all (p ∷ ps) from cs at h =
      each_all ps (from + 1) (step cs p)
      (λ i q s. let same : from + 1 + i ≡ from + suc i = omega arith in
      ap (slice_get parts) same ∙ at (suc i) q s)
      (each_if cs (iterator_of p) h (λ v has. record {
        place = from + 0;
        part = p;
        name = v;
        stands = at 0 p refl;
        has = has;
        is = refl;
      }))

  pub columns_are : Each IsColumn (columns_of vs parts)
  columns_are =
      each_all parts 0 []
      (λ i p s. let same : 0 + i ≡ i = omega arith in ap (slice_get parts) same ∙ s) tt

  stays_if : (n : ℕ) (cs : List Column) (o : Option (List ℕ)) → has_number n cs ≡ true
      → has_number n (with_column_if vs parts cs o) ≡ true
  stays_if n cs None h = h
  stays_if n cs (Some v) h = number_stays n cs (column_of vs parts v) h

  stays_all : (n : ℕ) (ps : List Part) (cs : List Column) → has_number n cs ≡ true
      → has_number n (fold step cs ps) ≡ true
  stays_all n [] cs h = h
  stays_all n (p ∷ ps) cs h = stays_all n ps (step cs p) (stays_if n cs (iterator_of p) h)

  number_if : (cs : List Column) (o : Option (List ℕ)) (v : List ℕ) → o ≡ Some v
      → has_number (column_of vs parts v).number (with_column_if vs parts cs o) ≡ true
  number_if cs None v e = none_is_not v e
  number_if cs (Some w) v e =
      subst (λ (u : List ℕ). has_number (column_of vs parts u).number
      (with_column_if vs parts cs (Some w)) ≡ true) (same_Some w v e)
      (number_with cs (column_of vs parts w))

  number_all : (ps : List Part) (cs : List Column) (i : ℕ) (p : Part) (v : List ℕ)
      → slice_get ps i ≡ Some p → iterator_of p ≡ Some v
      → has_number (column_of vs parts v).number (fold step cs ps) ≡ true
  number_all [] cs i p v s e = none_is_not p s
  number_all (q ∷ ps) cs zero p v s e =
      stays_all (column_of vs parts v).number ps (step cs q)
      (number_if cs (iterator_of q) v (ap iterator_of (same_Some q p s) ∙ e))
  number_all (q ∷ ps) cs (suc i) p v s e = number_all ps (step cs q) i p v s e

  pub columns_have : (i : ℕ) (p : Part) (v : List ℕ) → slice_get parts i ≡ Some p
      → iterator_of p ≡ Some v
      → has_number (column_of vs parts v).number (columns_of vs parts) ≡ true
  columns_have i p v s e = number_all parts [] i p v s e
