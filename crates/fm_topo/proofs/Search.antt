-- A binary search in a list whose keys ascend.
use Rattle.std.proofs.Common.{◌≡◌, ◌<◌, ◌≤◌, ℕ, zero, suc, List, [], ◌∷◌, length, refl, arith, ap}
use Rattle.std.proofs.Common.{sym, ◌∙◌, subst, Some, None, get_or, ⊎_elim}
use Rattle.std.specs.declared.cmp.Ordering.{Ordering}
use Rattle.std.specs.declared.cmp.Ordering.TheVariants.{Less, Equal, Greater}
use Rattle.std.specs.Ordering.{ordering_index, ordering_reverse}
use Rattle.std.specs.Cmp.{IsTotalOrder, eq_by_cmp_equiv, alike_right}
use Rattle.std.specs.List.{AllWithin, HoldsAt}
use Rattle.std.specs.List.Sorted.{IsStrictlySortedBy}
use Rattle.std.specs.Map.{lookup, keys_of}
use Rattle.std.specs.BTreeMap.{is_at}
use Rattle.std.proofs.Math.Nat.{eq-or-lt_of_le, le_refl}
use Rattle.std.proofs.lemmas.Map.Keys.{Less-from_sorted, IsDistinct-from_sorted}
use Rattle.std.proofs.lemmas.Map.Entries.{lookup_from_place, lookup_at_gap, length-keys_of}
use Rattle.std.proofs.lemmas.Option.{slice_get-get_or, get_or_from_slice_get, slice_get_within}

key_at : {K X : Type 0} (es : List (K × X)) (i : ℕ) (d : K × X)
    → get_or (keys_of es) i d.0 ≡ (get_or es i d).0
key_at [] zero d = refl
key_at [] (suc i) d = refl
key_at (e ∷ es) zero d = refl
key_at (e ∷ es) (suc i) d = key_at es i d

index_le : (o p : Ordering) → (p ≡ Less → o ≡ Less) → (p ≡ Equal → o ≡ Less)
    → ordering_index o ≤ ordering_index p
index_le Less p f g = omega arith
index_le Equal Less f g = let k : Equal ≡ Less = f refl in cc
index_le Equal Equal f g = let k : Equal ≡ Less = g refl in cc
index_le Equal Greater f g = omega arith
index_le Greater Less f g = let k : Greater ≡ Less = f refl in cc
index_le Greater Equal f g = let k : Greater ≡ Less = g refl in cc
index_le Greater Greater f g = omega arith

module _ {K X : Type 0} {R : K → K → Ordering} (o : IsTotalOrder R) where
  -- an earlier key is below a later one
  pub below : (es : List (K × X)) (i j : ℕ) (d : K × X) → IsStrictlySortedBy R (keys_of es) → i < j
      → j < length es → R (get_or es i d).0 (get_or es j d).0 ≡ Less
  below es i j d s h k =
      let l = Less-from_sorted R (keys_of es) i j d.0 s h
      (subst (λ n. j < n) (sym (length-keys_of es)) k) in
      subst (λ a. R a (get_or es j d).0 ≡ Less) (key_at es i d)
      (subst (λ b. R (get_or (keys_of es) i d.0) b ≡ Less) (key_at es j d) l)

  -- what the keys are to another key rises along the list
  pub rising : (es : List (K × X)) (q : K) → IsStrictlySortedBy R (keys_of es)
      → (i j : ℕ) (d : K × X) → i ≤ j → j < length es
      → ordering_index (R (get_or es i d).0 q) ≤ ordering_index (R (get_or es j d).0 q)
  rising es q s i j d h k =
      ⊎_elim (λ e. subst (λ n. ordering_index (R (get_or es i d).0 q)
      ≤ ordering_index (R (get_or es n d).0 q)) e (le_refl _))
      (λ l. let b = below es i j d s l k in
      index_le _ _ (λ p. o.trans _ _ _ b p)
      (λ p. sym (alike_right o (get_or es j d).0 q (get_or es i d).0 p) ∙ b)) (eq-or-lt_of_le h)

  -- what stands at a place is what its key has
  pub found_at : (es : List (K × X)) (i : ℕ) (e : K × X) → IsStrictlySortedBy R (keys_of es)
      → i < length es → e ≡ get_or es i e → Some e.1 ≡ lookup (is_at (R e.0)) es
  found_at es i e s h same = sym
      (lookup_from_place (eq_by_cmp_equiv o) es i e.0 e.1 (IsDistinct-from_sorted R _ s)
      (slice_get-get_or es i e h ∙ ap Some (sym same)))

  pub found : ((x y : K) → R x y ≡ Equal → x ≡ y) → (es : List (K × X)) (q : K) (i : ℕ) (e : K × X)
      → IsStrictlySortedBy R (keys_of es) → i < length es
      → HoldsAt (λ y. R y.0 q ≡ Equal) es i → e ≡ get_or es i e → Some e.1 ≡ lookup (is_at (R q)) es
  found ties es q i e s h at same =
      let k : e.0 ≡ q = ties e.0 q (subst (λ y. R y.0 q ≡ Equal) (sym same) (at e)) in
      subst (λ a. Some e.1 ≡ lookup (is_at (R a)) es) k (found_at es i e s h same)

  pub missing : (es : List (K × X)) (q : K) (i : ℕ) → IsStrictlySortedBy R (keys_of es)
      → AllWithin (λ y. R y.0 q ≡ Less) es 0 i
      → AllWithin (λ y. R y.0 q ≡ Greater) es i (length es) → lookup (is_at (R q)) es ≡ None
  missing es q i s low high =
      lookup_at_gap o q es i s
      (λ j e l g. o.antisymm q e.0
      ∙ ap ordering_reverse
      (subst (λ y. R y.0 q ≡ Less) (get_or_from_slice_get es j e e g)
      (low j e (omega arith) l)))
      (λ e g. o.antisymm q e.0
      ∙ ap ordering_reverse
      (subst (λ y. R y.0 q ≡ Greater) (get_or_from_slice_get es i e e g)
      (high i e (omega arith) (slice_get_within es i e g))))
