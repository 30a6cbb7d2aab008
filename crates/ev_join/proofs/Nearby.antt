-- The first row that is not before some numbers, tried at a place.
use Rattle.std.proofs.Common.{◌≡◌, ◌<◌, ◌≤◌, ◌-◌, ℕ, zero, suc, Bool, true, false, not, List}
use Rattle.std.proofs.Common.{length, get_or}
use Rattle.std.proofs.Common.{refl, arith, ap, sym, ◌∙◌}
use Rattle.std.specs.List.{AllWithin}
use Rattle.std.proofs.lemmas.List.{get_or_read}
use Rattle.std.proofs.lemmas.Bool.{false_from_ne_true}
use Rattle.ev_join.specs.declared.table.Row.{Row}
use Rattle.ev_join.specs.Order.{is_not_before}
use Rattle.ev_join.specs.Tables.{TableValue, IsTable}
use Rattle.ev_join.specs.Search.{IsFirstFrom}
use Rattle.ev_join.proofs.Seeking.{parted_before}

unnot : (b : Bool) → not b ≡ true → b ≡ false
unnot true h = cc
unnot false h = refl

positive : (n : ℕ) → (n ≡ 0 → ⊥) → 0 < n
positive zero h = absurd (h refl)
positive (suc n) h = omega arith

module _ (t : TableValue) (h : IsTable t) (k : List ℕ) where
  abbrev before : Row → Bool
  before r = not (is_not_before r.values k)

  -- where a row is not before, none behind it is
  behind : (at : ℕ) (r : Row) → at < length t.rows → r ≡ get_or t.rows at r
      → is_not_before r.values k ≡ true
      → AllWithin (λ (s : Row). before s ≡ false) t.rows at (length t.rows)
  behind at r lt is here i d low less =
      false_from_ne_true (before (get_or t.rows i d)) (λ so.
      let e : before (get_or t.rows at d) ≡ true = parted_before t h k at i d low less so in
      let same : r ≡ get_or t.rows at d = get_or_read t.rows at r lt is d in
      let wrong : not true ≡ true = ap not (sym here) ∙ (ap before same ∙ e) in
      absurd (let bad : ⊥ = cc in bad))

  -- where a row is before, those in front of it are
  in_front : (at : ℕ) (s : Row) → 0 < at → at ≤ length t.rows → s ≡ get_or t.rows (at - 1) s
      → is_not_before s.values k ≡ false
      → AllWithin (λ (r : Row). before r ≡ true) t.rows 0 at
  in_front at s some lt is yet i d low less =
      let same : s ≡ get_or t.rows (at - 1) d =
      get_or_read t.rows (at - 1) s (omega (arith, some, lt)) is d in
      let e : before (get_or t.rows (at - 1) d) ≡ true = ap before (sym same) ∙ ap not yet in
      parted_before t h k i (at - 1) d (omega (arith, some, less)) (omega (arith, some, lt)) e

  -- the first row of all is not before
  pub first_of_all : (at : ℕ) (r : Row) → at ≡ 0 → at < length t.rows → r ≡ get_or t.rows at r
      → is_not_before r.values k ≡ true → IsFirstFrom t.rows k at
  first_of_all at r none lt is here = record {
    within = omega (arith, lt);
    before = λ i d low less. absurd (omega (arith, less, none));
    from = behind at r lt is here;
  }

  -- a row is not before, and the one in front of it is
  pub first_here : (at : ℕ) (r s : Row) → (at ≡ 0 → ⊥) → at < length t.rows
      → r ≡ get_or t.rows at r → s ≡ get_or t.rows (at - 1) s
      → is_not_before r.values k ≡ true → not (is_not_before s.values k) ≡ true
      → IsFirstFrom t.rows k at
  first_here at r s some lt is also here yet = record {
    within = omega (arith, lt);
    before = in_front at s (positive at some) (omega (arith, lt)) also
        (unnot (is_not_before s.values k) yet);
    from = behind at r lt is here;
  }
