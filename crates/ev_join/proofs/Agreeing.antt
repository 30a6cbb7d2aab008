-- The rows that agree with a binding stand together.
use Rattle.std.proofs.Common.{◌≡◌, ◌<◌, ◌≤◌, ◌+◌, ℕ, zero, suc, Bool, true, false, not, List, []}
use Rattle.std.proofs.Common.{◌∷◌}
use Rattle.std.proofs.Common.{◌++◌, length, take, drop, filter, get_or, refl, arith, ap, sym, ◌∙◌}
use Rattle.std.proofs.Common.{subst, length-drop, ◌-◌}
use mathlib.Core.Bool.{true≢false}
use Rattle.std.specs.List.{AllWithin, prefix_len}
use Rattle.std.specs.List.Sorted.{IsPartitionedBy}
use Rattle.std.proofs.lemmas.Grind.{common_steps}
use Rattle.std.proofs.lemmas.List.{append-nil, get_or-drop}
use Rattle.std.proofs.lemmas.List.Sums.{prefix_len_passes, prefix_len_stops, prefix_len-drop_all}
use Rattle.std.proofs.lemmas.List.Sums.{prefix_len-drop_no, prefix_len-drop_yes}
use Rattle.std.proofs.lemmas.List.Sums.{prefix_len-le-length}
use Rattle.std.proofs.lemmas.Option.{slice_get-get_or}
use Rattle.std.proofs.lemmas.Bool.{false_from_ne_true}
use Rattle.ev_join.specs.declared.table.Row.{Row}
use Rattle.ev_join.specs.Order.{IsNotBefore, is_not_before, is_begun, placing}
use Rattle.ev_join.specs.Tables.{TableValue, IsTable}
use Rattle.ev_join.proofs.Ordering.{from_test, to_test, goes_all}
use Rattle.ev_join.proofs.Placings.{begun, squeezed_begun}
use Rattle.ev_join.proofs.Seeking.{at_or_behind}

-- ---- a list that a test parts in two
none_pass : {X : Type 0} (p : X → Bool) (xs : List X)
    → AllWithin (λ y. p y ≡ false) xs 0 (length xs) → filter p xs ≡ []
none_pass p [] h = refl
none_pass p (x ∷ xs) h =
    let e = h 0 x (omega arith) (omega arith) in
    let more = none_pass p xs (λ k d l r. h (suc k) d (omega arith) (omega (arith, r))) in
    rw e more

front_passes : {X : Type 0} (p : X → Bool) (xs : List X) (i : ℕ) → i ≤ length xs
    → AllWithin (λ y. p y ≡ true) xs 0 i
    → AllWithin (λ y. p y ≡ false) xs i (length xs) → filter p xs ≡ take i xs
front_passes p [] zero h passes fails = refl
front_passes p [] (suc i) h passes fails = absurd (omega arith)
front_passes p (x ∷ xs) zero h passes fails = none_pass p (x ∷ xs) fails
front_passes p (x ∷ xs) (suc i) h passes fails =
    let e = passes 0 x (omega arith) (omega arith) in
    let more = front_passes p xs i (omega (arith, h))
    (λ k d l r. passes (suc k) d (omega arith) (omega arith))
    (λ k d l r. fails (suc k) d (omega arith) (omega (arith, r))) in
    rw e (ap (λ r. x ∷ r) more)

front_fails : {X : Type 0} (p : X → Bool) (xs : List X) (i : ℕ) → i ≤ length xs
    → AllWithin (λ y. p y ≡ false) xs 0 i → filter p xs ≡ filter p (drop i xs)
front_fails p xs zero h fails = refl
front_fails p [] (suc i) h fails = absurd (omega arith)
front_fails p (x ∷ xs) (suc i) h fails =
    let e = fails 0 x (omega arith) (omega arith) in
    rw e (front_fails p xs i (omega (arith, h))
    (λ k d l r. fails (suc k) d (omega arith) (omega arith)))

-- where a list is parted, its front that passes is all that passes
pub begun_parted : {X : Type 0} (p : X → Bool) (xs : List X) (n : ℕ) → n ≡ prefix_len p xs
    → IsPartitionedBy p xs
    → AllWithin (λ y. p y ≡ true) xs 0 n × AllWithin (λ y. p y ≡ false) xs n (length xs)
begun_parted p xs n e parted = (
  λ k d low less. prefix_len_passes p xs k d (omega (arith, e, less)),
  λ k d low less. false_from_ne_true (p (get_or xs k d)) (λ so.
      let stop : p (get_or xs n d) ≡ false =
      rw e (prefix_len_stops p xs d (omega (arith, e, low, less))) in
      true≢false (sym (parted n k d low less so) ∙ stop)),
)

-- ---- the front of a list that passes, element by element
module _ {X : Type 0} (p : X → Bool) (xs : List X) (at : ℕ)
    (so_far : prefix_len p (drop at xs) + at ≡ prefix_len p xs) where
  pub one_passes : (x : X) → at < length xs → x ≡ get_or xs at x → p x ≡ true
      → prefix_len p (drop (at + 1) xs) + (at + 1) ≡ prefix_len p xs
  one_passes x lt is passes =
      let e = prefix_len-drop_yes p xs at x lt (sym (ap p is) ∙ passes) in
      omega (arith, e, so_far)

  pub one_stops : (x : X) → at < length xs → x ≡ get_or xs at x → p x ≡ false
      → at ≡ prefix_len p xs
  one_stops x lt is fails =
      let e = prefix_len-drop_no p xs at x lt (sym (ap p is) ∙ fails) in omega (arith, e, so_far)

  pub all_pass : length xs ≤ at → length xs ≡ prefix_len p xs
  all_pass le =
      let e = prefix_len-drop_all p xs at le in
      omega (arith, e, so_far, le, prefix_len-le-length p xs)

-- ---- rows that begin with what a binding gives
module _ (t : TableValue) (h : IsTable t) (k : List ℕ) where
  abbrev agrees : Row → Bool
  agrees r = is_begun (placing r.values k)

  -- one that begins so is not before
  not_before : (r : Row) → agrees r ≡ true → is_not_before r.values (k ++ []) ≡ true
  not_before r e =
      let b = begun r.values k e in
      to_test r.values (k ++ [])
      (rw (append-nil k, b.is) (goes_all k b.rest))

  pub before_fails : (first : ℕ)
      → AllWithin (λ (r : Row). not (is_not_before r.values (k ++ [])) ≡ true) t.rows 0 first
      → AllWithin (λ (r : Row). agrees r ≡ false) t.rows 0 first
  before_fails first low i d a b =
      let e = low i d a b in
      let f = not_before (get_or t.rows i d) in grind (arith, common_steps, e, f)

  -- behind the first that is not before, those that begin so stand in front
  pub parted_agreeing : (first : ℕ) → first ≤ length t.rows
      → AllWithin (λ (r : Row). not (is_not_before r.values (k ++ [])) ≡ false) t.rows first
      (length t.rows)
      → IsPartitionedBy agrees (drop first t.rows)
  parted_agreeing first within high i j d le less e =
      let len : length (drop first t.rows) ≡ length t.rows - first = length-drop first t.rows in
      let at_i : get_or (drop first t.rows) i d ≡ get_or t.rows (first + i) d =
      get_or-drop first t.rows i d in
      let at_j : get_or (drop first t.rows) j d ≡ get_or t.rows (first + j) d =
      get_or-drop first t.rows j d in
      let b = begun (get_or t.rows (first + j) d).values k (sym (ap agrees at_j) ∙ e) in
      let far = at_or_behind t h (first + i) (first + j) (get_or t.rows (first + i) d)
      (get_or t.rows (first + j) d) (omega (arith, le))
      (slice_get-get_or t.rows (first + i) d (omega (arith, len, le, less)))
      (slice_get-get_or t.rows (first + j) d (omega (arith, len, less))) in
      let here = high (first + i) d (omega arith) (omega (arith, len, le, less)) in
      let yet : is_not_before (get_or t.rows (first + i) d).values (k ++ []) ≡ true =
      grind (arith, common_steps, here) in
      let from : IsNotBefore (get_or t.rows (first + i) d).values k =
      subst (IsNotBefore (get_or t.rows (first + i) d).values) (append-nil k)
      (from_test _ (k ++ []) yet) in
      ap agrees at_i
      ∙ squeezed_begun k (get_or t.rows (first + i) d).values b.rest from
      (subst (λ v. IsNotBefore v (get_or t.rows (first + i) d).values) b.is far)

  pub range_is : (first n : ℕ) → first ≤ length t.rows → n ≤ length (drop first t.rows)
      → AllWithin (λ (r : Row). agrees r ≡ false) t.rows 0 first
      → AllWithin (λ (r : Row). agrees r ≡ true) (drop first t.rows) 0 n
      → AllWithin (λ (r : Row). agrees r ≡ false) (drop first t.rows) n (length (drop first t.rows))
      → take n (drop first t.rows) ≡ filter agrees t.rows
  range_is first n within short low passes fails =
      sym (front_fails agrees t.rows first within low
      ∙ front_passes agrees (drop first t.rows) n short passes fails)
