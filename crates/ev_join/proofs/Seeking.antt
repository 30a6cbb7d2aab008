-- The least number with which some row goes on, by the first row that is not before.
use Rattle.std.proofs.Common.{◌≡◌, ◌<◌, ◌≤◌, ℕ, true, false, not, List, [], ◌∷◌}
use Rattle.std.proofs.Common.{◌++◌}
use Rattle.std.proofs.Common.{length, get_or, slice_get, Option, Some, None, inl, inr, refl, arith}
use Rattle.std.proofs.Common.{ap, sym}
use Rattle.std.proofs.Common.{◌∙◌, subst, append_assoc, ◌==◌, nat_le}
use Rattle.std.specs.List.{AllWithin, list_any}
use Rattle.std.specs.List.Sorted.{IsPartitionedBy}
use Rattle.std.proofs.lemmas.Bool.{cases_Bool}
use Rattle.std.proofs.lemmas.Grind.{common_steps}
use Rattle.std.proofs.lemmas.Option.{slice_get-get_or, get_or_from_slice_get, slice_get_within}
use Rattle.ev_join.specs.declared.table.Row.{Row}
use Rattle.ev_join.specs.Order.{IsNotBefore, is_not_before, Placing, Before, Past, Begins, placing}
use Rattle.ev_join.specs.Order.{number_behind}
use Rattle.ev_join.specs.Tables.{TableValue, IsTable, HasRow, bound_values}
use Rattle.ev_join.specs.Search.{IsLeastFrom}
use Rattle.ev_join.proofs.Ordering.{Squeezed, squeeze, from_test, to_test, not_before_itself}
use Rattle.ev_join.proofs.Ordering.{not_before_trans, goes_any}
use Rattle.ev_join.proofs.Placings.{placing_begun, placing_is}
use Rattle.ev_join.proofs.Columns.{bound_on, bound_off}

-- the number behind a beginning is that of any way to write the list
pub same_behind : (k r s : List ℕ) (v w : ℕ) → k ++ v ∷ r ≡ k ++ w ∷ s → v ≡ w
same_behind [] r s v w e = cc
same_behind (a ∷ k) r s v w e =
    let f : k ++ v ∷ r ≡ k ++ w ∷ s = cc in same_behind k r s v w f

-- a row at least as far from the front is not before another
pub at_or_behind : (t : TableValue) → IsTable t → (i j : ℕ) (r s : Row) → i ≤ j
    → slice_get t.rows i ≡ Some r → slice_get t.rows j ≡ Some s → IsNotBefore s.values r.values
at_or_behind t h i j r s le p q = elim (cases_Bool (i == j)) [
  | inl so ↦
      let same : i ≡ j = grind (arith, common_steps, so) in
      let is : Some s ≡ Some r = sym q ∙ ap (slice_get t.rows) (sym same) ∙ p in
      let equal : s ≡ r = cc in
      subst (λ (x : Row). IsNotBefore s.values x.values) equal (not_before_itself s.values)
  | inr not_so ↦ h.order i j r s (grind (arith, common_steps, not_so, le)) p q
]

-- the rows before some numbers stand in front
pub parted_before : (t : TableValue) → IsTable t → (k : List ℕ)
    → IsPartitionedBy (λ (r : Row). not (is_not_before r.values k)) t.rows
parted_before t h k i j d le less e =
    elim (cases_Bool (is_not_before (get_or t.rows i d).values k)) [
      | inr not_so ↦ rw not_so
      | inl so ↦
          let far = at_or_behind t h i j (get_or t.rows i d) (get_or t.rows j d) le
          (slice_get-get_or t.rows i d (omega (arith, le, less)))
          (slice_get-get_or t.rows j d less) in
          let too : is_not_before (get_or t.rows j d).values k ≡ true =
          to_test _ k (not_before_trans _ _ k far (from_test _ k so)) in
          let no : not true ≡ true = ap not (sym too) ∙ e in absurd (let bad : ⊥ = cc in bad)
    ]

module _ (t : TableValue) (h : IsTable t) (front : List ℕ) (x : ℕ) where
  abbrev k : List ℕ
  k = bound_values t.columns front

  abbrev goes : ℕ → Type 0
  goes z = HasRow t.rows (bound_values t.columns (front ++ z ∷ []))

  -- an iterator that is no column
  pub least_off : list_any (λ c. c == length front) t.columns ≡ false → HasRow t.rows k
      → IsLeastFrom goes x (Some x)
  least_off e row =
      let same = bound_off t.columns front 0 x h.rising e in
      (omega arith, (subst (HasRow t.rows) (sym same) row, λ z le p. le))

  module _ (asked : list_any (λ c. c == length front) t.columns ≡ true) where
    -- a row that goes on with a number begins with what the beginning gives, and the number
    row_is : (z : ℕ) (p : goes z) → p.row.values ≡ k ++ z ∷ p.rest
    row_is z p =
        p.begins ∙ ap (λ v. v ++ p.rest) (bound_on t.columns front 0 z h.rising asked)
        ∙ append_assoc k (z ∷ []) p.rest

    row_from : (z : ℕ) (p : goes z) → x ≤ z → IsNotBefore p.row.values (k ++ x ∷ [])
    row_from z p le = rw (row_is z p) (goes_any k p.rest x z le)

    -- such a row is none of those before
    row_past : (at z : ℕ) (p : goes z) → x ≤ z
        → AllWithin (λ (r : Row). not (is_not_before r.values (k ++ x ∷ [])) ≡ true) t.rows 0 at
        → at ≤ p.place
    row_past at z p le low = elim (cases_Bool (nat_le at p.place)) [
      | inl so ↦ grind (arith, common_steps, so)
      | inr not_so ↦
          let less : p.place < at = grind (arith, common_steps, not_so) in
          let e = low p.place p.row (omega arith) less in
          let f = subst (λ (r : Row). not (is_not_before r.values (k ++ x ∷ [])) ≡ true)
          (get_or_from_slice_get t.rows p.place p.row p.row p.stands) e in
          let too : is_not_before p.row.values (k ++ x ∷ []) ≡ true =
          to_test _ _ (row_from z p le) in
          let bad : not true ≡ true = ap not (sym too) ∙ f in absurd (let none : ⊥ = cc in none)
    ]

    -- no row is left
    pub least_none : (at : ℕ) → length t.rows ≤ at
        → AllWithin (λ (r : Row). not (is_not_before r.values (k ++ x ∷ [])) ≡ true) t.rows 0 at
        → IsLeastFrom goes x None
    least_none at all low z le p =
        let far = row_past at z p le low in
        let within = slice_get_within t.rows p.place p.row p.stands in
        omega (arith, far, within, all)

    module _ (at : ℕ) (row : Row) (stands : slice_get t.rows at ≡ Some row)
        (low : AllWithin (λ (r : Row). not (is_not_before r.values (k ++ x ∷ [])) ≡ true)
        t.rows 0 at)
        (here : IsNotBefore row.values (k ++ x ∷ [])) where
      -- a row that goes on stands here or behind, so what stands here begins alike
      between : (z : ℕ) → x ≤ z → goes z → Squeezed k row.values x z
      between z le p =
          let far = at_or_behind t h at p.place row p.row (row_past at z p le low)
          stands p.stands in
          squeeze k row.values p.rest x z here
          (subst (λ v. IsNotBefore v row.values) (row_is z p) far)

      none_if : (o : Placing) → placing row.values k ≡ o → number_behind o ≡ None
          → IsLeastFrom goes x None
      none_if o is none z le p =
          let s = between z le p in
          let e : placing row.values k ≡ Begins (s.value ∷ s.more) =
          ap (λ v. placing v k) s.is ∙ placing_begun k (s.value ∷ s.more) in
          let f : number_behind o ≡ Some s.value = ap number_behind (sym is ∙ e) in
          let g : ◌≡◌ {A = Option ℕ} None (Some s.value) = sym none ∙ f in
          absurd (let bad : ⊥ = cc in bad)

      least_by : (o : Placing) → placing row.values k ≡ o → IsLeastFrom goes x (number_behind o)
      least_by Before is = none_if Before is refl
      least_by Past is = none_if Past is refl
      least_by (Begins []) is = none_if (Begins []) is refl
      least_by (Begins (v ∷ more)) is =
          let row_begins : row.values ≡ k ++ v ∷ more = placing_is row.values k (v ∷ more) is in
          let own = squeeze k row.values more x v here
          (subst (λ r. IsNotBefore r row.values) row_begins (not_before_itself row.values)) in
          let own_value : own.value ≡ v =
          same_behind k own.more more own.value v (sym own.is ∙ row_begins) in
          let on = bound_on t.columns front 0 v h.rising asked in
          let found : goes v = record {
            place = at;
            row = row;
            stands = stands;
            rest = more;
            begins = row_begins ∙ sym (append_assoc k (v ∷ []) more)
                ∙ ap (λ y. y ++ more) (sym on);
          } in
          let least : (z : ℕ) → x ≤ z → goes z → v ≤ z = λ z le p.
          let s = between z le p in
          let value : s.value ≡ v =
          same_behind k s.more more s.value v (sym s.is ∙ row_begins) in
          omega (arith, s.to, value) in
          (omega (arith, own.from, own_value), (found, least))

      -- the number in the first row that is not before
      pub least_here : IsLeastFrom goes x (number_behind (placing row.values k))
      least_here = least_by (placing row.values k) refl
