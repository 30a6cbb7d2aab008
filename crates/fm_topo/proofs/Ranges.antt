-- The paths under a path stand together.
use Rattle.std.proofs.Common.{◌≡◌, ◌<◌, ◌≤◌, ◌+◌, ℕ, zero, suc, Bool, true, false, ◌&&◌, List, []}
use Rattle.std.proofs.Common.{◌∷◌, length, take, drop, refl, arith, ap, sym, ◌∙◌, subst, ◌-◌, ◌⊎◌}
use Rattle.std.proofs.Common.{inl, inr, get_or, nat_lt, ⊎_elim, length-drop}
use mathlib.Core.Bool.{true≢false}
use Rattle.std.specs.Prelude.{◌==◌}
use Rattle.std.specs.Str.{bytes_eq}
use Rattle.std.specs.Cmp.Lexicographic.{bytes_decides}
use Rattle.std.proofs.Math.Nat.{eq-or-lt_of_le}
use Rattle.std.specs.declared.cmp.Ordering.{Ordering}
use Rattle.std.specs.declared.cmp.Ordering.TheVariants.{Less, Equal, Greater}
use Rattle.std.specs.Ordering.{is_le, is_gt, ordering_then, ordering_reverse}
use Rattle.std.specs.Cmp.{tied_itself, upto}
use Rattle.std.specs.List.{AllWithin, filter, count_by}
use Rattle.std.specs.List.Sorted.{IsStrictlySortedBy}
use Rattle.std.specs.Map.{keys_of}
use Rattle.std.proofs.lemmas.List.{get_or-drop, length-take-le}
use Rattle.std.proofs.lemmas.List.Sums.{length-filter}
use Rattle.std.proofs.Math.Seq.{take-length}
use Rattle.std.proofs.lemmas.Grind.{common_steps}
use Rattle.fm_name.specs.Path.{PathPart, parts_of}
use Rattle.fm_name.specs.Order.{part_cmp, parts_cmp, path_cmp, part_eq, begins_with_parts, is_under}
use Rattle.fm_name.specs.OrderLaws.{part_cmp_total, parts_cmp_total, path_cmp_total}
use Rattle.fm_name.proofs.Same.{parts_tie}
use Rattle.fm_topo.specs.Query.{lies_under}
use Rattle.fm_topo.specs.Property.{Properties}
use Rattle.fm_topo.proofs.Search.{below}

-- ---- a list that a test parts in two
none_pass : {X : Type 0} (p : X → Bool) (xs : List X)
    → AllWithin (λ y. p y ≡ false) xs 0 (length xs) → filter p xs ≡ []
none_pass p [] h = refl
none_pass p (x ∷ xs) h =
    let e = h 0 x (omega arith) (omega arith) in
    let more = none_pass p xs (λ k d l r. h (suc k) d (omega arith) (omega (arith, r))) in
    rw e more

pub parted : {X : Type 0} (p : X → Bool) (xs : List X) (i : ℕ) → i ≤ length xs
    → AllWithin (λ y. p y ≡ true) xs 0 i
    → AllWithin (λ y. p y ≡ false) xs i (length xs) → filter p xs ≡ take i xs
parted p [] zero h passes fails = refl
parted p [] (suc i) h passes fails = absurd (omega arith)
parted p (x ∷ xs) zero h passes fails = none_pass p (x ∷ xs) fails
parted p (x ∷ xs) (suc i) h passes fails =
    let e = passes 0 x (omega arith) (omega arith) in
    let more = parted p xs i (omega (arith, h))
    (λ k d l r. passes (suc k) d (omega arith) (omega arith))
    (λ k d l r. fails (suc k) d (omega arith) (omega (arith, r))) in
    rw e (ap (λ r. x ∷ r) more)

pub counted : {X : Type 0} (p : X → Bool) (xs : List X) (i : ℕ) → i ≤ length xs
    → AllWithin (λ y. p y ≡ true) xs 0 i
    → AllWithin (λ y. p y ≡ false) xs i (length xs) → i ≡ count_by p xs
counted p xs i h passes fails =
    sym (sym (length-filter p xs)
    ∙ (ap length (parted p xs i h passes fails) ∙ length-take-le i xs h))

pub rest_all : {X : Type 0} (n : ℕ) (xs : List X) → take (length xs - n) (drop n xs) ≡ drop n xs
rest_all n xs = ap (λ k. take k (drop n xs)) (sym (length-drop n xs)) ∙ take-length (drop n xs)

none_front : {X : Type 0} (p : X → Bool) (xs : List X) (i : ℕ) → i ≤ length xs
    → AllWithin (λ y. p y ≡ false) xs 0 i → filter p xs ≡ filter p (drop i xs)
none_front p xs zero h fails = refl
none_front p [] (suc i) h fails = absurd (omega arith)
none_front p (x ∷ xs) (suc i) h fails =
    let e = fails 0 x (omega arith) (omega arith) in
    rw e (none_front p xs i (omega (arith, h))
    (λ k d l r. fails (suc k) d (omega arith) (omega arith)))

-- ---- the order of parts
not_gt : (o p : Ordering) → ordering_then o p ≡ Less → is_gt o ≡ false
not_gt Less p e = refl
not_gt Equal p e = refl
not_gt Greater p e = cc

le_gt : (o : Ordering) → is_gt o ≡ false → is_le o ≡ true
le_gt Less e = refl
le_gt Equal e = refl
le_gt Greater e = cc

gt_le : (o : Ordering) → is_le o ≡ true → is_gt o ≡ false
gt_le Less e = refl
gt_le Equal e = refl
gt_le Greater e = cc

not_le : (o : Ordering) → is_le o ≡ false → o ≡ Greater
not_le Less e = cc
not_le Equal e = cc
not_le Greater e = refl

less_or_equal : (o : Ordering) → is_gt o ≡ false → (o ≡ Less) ⊎ (o ≡ Equal)
less_or_equal Less e = inl refl
less_or_equal Equal e = inr refl
less_or_equal Greater e = cc

-- paths in path order have parts in their order, or the same parts
parts_below : (x y : List ℕ) → path_cmp x y ≡ Less
    → is_gt (parts_cmp (parts_of x) (parts_of y)) ≡ false
unfolding path_cmp
parts_below x y e = not_gt (parts_cmp (parts_of x) (parts_of y)) _ e

part_same : (p q : PathPart) → part_eq p q ≡ true → p ≡ q
part_same p q e =
    let h : bytes_eq p.name q.name ≡ true = grind (arith, common_steps) in
    let k : (p.instance == q.instance) ≡ true = grind (arith, common_steps) in
    let a : p.name ≡ q.name = (bytes_decides p.name q.name).0 h in
    let b : p.instance ≡ q.instance = grind (arith, common_steps) in
    λ i. record { name = a i; instance = b i }

part_itself : (p : PathPart) → part_eq p p ≡ true
part_itself p =
    let h : bytes_eq p.name p.name ≡ true = (bytes_decides p.name p.name).1 refl in
    let k : (p.instance == p.instance) ≡ true = grind (arith, common_steps) in
    rw (h, k)

-- parts that begin with others and are more
abbrev parts_under : List PathPart → List PathPart → Bool
parts_under ps above = begins_with_parts ps above && nat_lt (length above) (length ps)

begun_tail : (y a : PathPart) (ys as_ : List PathPart) → begins_with_parts (y ∷ ys) (a ∷ as_) ≡ true
    → (part_eq y a ≡ true) × (begins_with_parts ys as_ ≡ true)
begun_tail y a ys as_ e = grind (arith, common_steps)

one_part : (a x : PathPart) → part_cmp a x ≡ Equal → a ≡ x
unfolding parts_cmp
one_part a x e = let h : a ∷ [] ≡ x ∷ [] = parts_tie (a ∷ []) (x ∷ []) (rw e refl) in cc

under_more : (a x : PathPart) (as_ xs : List PathPart) → a ≡ x → parts_under xs as_ ≡ true
    → parts_under (x ∷ xs) (a ∷ as_) ≡ true
under_more a x as_ xs e h =
    let k : part_eq x a ≡ true = subst (λ z. part_eq z a ≡ true) e (part_itself a) in
    grind (arith, common_steps)

-- what stands between parts and others that begin with them begins with them too
between_at : (a x : PathPart) (as_ xs ys : List PathPart) (o : Ordering) → part_cmp a x ≡ o
    → ordering_then (part_cmp a x) (parts_cmp as_ xs) ≡ Less
    → ordering_then (part_cmp x a) (parts_cmp xs ys) ≡ Less
    → (parts_cmp as_ xs ≡ Less → parts_cmp xs ys ≡ Less → parts_under xs as_ ≡ true)
    → parts_under (x ∷ xs) (a ∷ as_) ≡ true
between_at a x as_ xs ys Less e h k more =
    let r : part_cmp x a ≡ Greater = part_cmp_total.antisymm x a ∙ ap ordering_reverse e in
    let f : Greater ≡ Less = sym (ap (λ o. ordering_then o (parts_cmp xs ys)) r) ∙ k in cc
between_at a x as_ xs ys Equal e h k more =
    let r : part_cmp x a ≡ Equal = part_cmp_total.antisymm x a ∙ ap ordering_reverse e in
    let p : parts_cmp as_ xs ≡ Less = sym (ap (λ o. ordering_then o (parts_cmp as_ xs)) e) ∙ h in
    let q : parts_cmp xs ys ≡ Less = sym (ap (λ o. ordering_then o (parts_cmp xs ys)) r) ∙ k in
    under_more a x as_ xs (one_part a x e) (more p q)
between_at a x as_ xs ys Greater e h k more =
    let f : Greater ≡ Less = sym (ap (λ o. ordering_then o (parts_cmp as_ xs)) e) ∙ h in cc

between : (as_ xs ys : List PathPart) → parts_cmp as_ xs ≡ Less → parts_cmp xs ys ≡ Less
    → begins_with_parts ys as_ ≡ true → parts_under xs as_ ≡ true
unfolding parts_cmp
between [] [] ys h k g = cc
between [] (x ∷ xs) ys h k g = grind (arith, common_steps)
between (a ∷ as_) [] ys h k g = cc
between (a ∷ as_) (x ∷ xs) [] h k g = cc
between (a ∷ as_) (x ∷ xs) (y ∷ ys) h k g =
    let t = begun_tail y a ys as_ g in
    let same : y ≡ a = part_same y a t.0 in
    between_at a x as_ xs ys (part_cmp a x) refl h
    (subst (λ z. ordering_then (part_cmp x z) (parts_cmp xs ys) ≡ Less) same k)
    (λ p q. between as_ xs ys p q t.1)

longer_less : (as_ xs : List PathPart) → begins_with_parts xs as_ ≡ true → length as_ < length xs
    → parts_cmp as_ xs ≡ Less
unfolding parts_cmp
longer_less [] [] h k = absurd (omega arith)
longer_less [] (x ∷ xs) h k = refl
longer_less (a ∷ as_) [] h k = absurd (omega arith)
longer_less (a ∷ as_) (x ∷ xs) h k =
    let t = begun_tail x a xs as_ h in
    let same : x ≡ a = part_same x a t.0 in
    let e : part_cmp a x ≡ Equal =
    subst (λ z. part_cmp a z ≡ Equal) (sym same) (tied_itself part_cmp_total a) in
    rw e (longer_less as_ xs t.1 (omega (arith, k)))

under_is : (path above : List ℕ)
    → lies_under path above ≡ parts_under (parts_of path) (parts_of above)
unfolding is_under
under_is path above = refl

not_true : (b : Bool) → (b ≡ true → ⊥) → b ≡ false
not_true true h = absurd (h refl)
not_true false h = refl

-- a path that is not behind another is not strictly under it
before_not_under : (x a : List ℕ) → is_le (parts_cmp (parts_of x) (parts_of a)) ≡ true
    → lies_under x a ≡ false
before_not_under x a h = not_true (lies_under x a) (λ u.
    let v : parts_under (parts_of x) (parts_of a) ≡ true = sym (under_is x a) ∙ u in
    let b : begins_with_parts (parts_of x) (parts_of a) ≡ true = grind (arith, common_steps) in
    let l : length (parts_of a) < length (parts_of x) = grind (arith, common_steps) in
    let e = longer_less (parts_of a) (parts_of x) b l in
    let r : parts_cmp (parts_of x) (parts_of a) ≡ Greater =
    parts_cmp_total.antisymm (parts_of x) (parts_of a) ∙ ap ordering_reverse e in
    let f : is_le Greater ≡ true = sym (ap is_le r) ∙ h in
    true≢false (sym f))

begins_of : (ps above : List PathPart) → parts_under ps above ≡ true
    → begins_with_parts ps above ≡ true
begins_of ps above h = grind (arith, common_steps)

-- ---- the two tests part the list
module _ (es : List (List ℕ × Properties)) (above : List ℕ)
    (s : IsStrictlySortedBy path_cmp (keys_of es)) where
  pub first_parts : (i j : ℕ) (d : List ℕ × Properties) → i ≤ j → j < length es
      → is_le (parts_cmp (parts_of (get_or es j d).0) (parts_of above)) ≡ true
      → is_le (parts_cmp (parts_of (get_or es i d).0) (parts_of above)) ≡ true
  first_parts i j d h k e =
      ⊎_elim (λ q. subst (λ n. is_le (parts_cmp (parts_of (get_or es n d).0) (parts_of above))
      ≡ true) (sym q) e)
      (λ l. le_gt _ (upto parts_cmp_total _ _ _
      (parts_below _ _ (below path_cmp_total es i j d s l k)) (gt_le _ e))) (eq-or-lt_of_le h)

  pub then_parts : (first : ℕ) → first ≤ length es
      → AllWithin (λ e. is_le (parts_cmp (parts_of e.0) (parts_of above)) ≡ false) es first
      (length es)
      → (i j : ℕ) (d : List ℕ × Properties) → i ≤ j → j < length (drop first es)
      → lies_under (get_or (drop first es) j d).0 above ≡ true
      → lies_under (get_or (drop first es) i d).0 above ≡ true
  then_parts first within behind i j d h k e =
      let n : length (drop first es) ≡ length es - first = length-drop first es in
      let ei = get_or-drop first es i d in
      let ej = get_or-drop first es j d in
      ⊎_elim (λ q. subst (λ m. lies_under (get_or (drop first es) m d).0 above ≡ true) (sym q) e)
      (λ l.
      let g = not_le _ (behind (first + i) d (omega arith) (omega (arith, n))) in
      let a : parts_cmp (parts_of above) (parts_of (get_or es (first + i) d).0) ≡ Less =
      parts_cmp_total.antisymm (parts_of above) (parts_of (get_or es (first + i) d).0)
      ∙ ap ordering_reverse g in
      let b = parts_below _ _
      (below path_cmp_total es (first + i) (first + j) d s (omega (arith, l))
      (omega (arith, n))) in
      let u : parts_under (parts_of (get_or es (first + j) d).0) (parts_of above) ≡ true =
      sym (under_is (get_or es (first + j) d).0 above)
      ∙ (ap (λ z. lies_under z.0 above) (sym ej) ∙ e) in
      let v : parts_under (parts_of (get_or es (first + i) d).0) (parts_of above) ≡ true =
      ⊎_elim (λ p. between (parts_of above) _ _ a p
      (begins_of (parts_of (get_or es (first + j) d).0) (parts_of above) u))
      (λ p. subst (λ z. parts_under z (parts_of above) ≡ true) (sym (parts_tie _ _ p)) u)
      (less_or_equal _ b) in
      ap (λ z. lies_under z.0 above) ei ∙ (under_is (get_or es (first + i) d).0 above ∙ v))
      (eq-or-lt_of_le h)

  pub range_of : (first count : ℕ) → first ≤ length es
      → AllWithin (λ e. is_le (parts_cmp (parts_of e.0) (parts_of above)) ≡ true) es 0 first
      → count ≤ length (drop first es)
      → AllWithin (λ e. lies_under e.0 above ≡ true) (drop first es) 0 count
      → AllWithin (λ e. lies_under e.0 above ≡ false) (drop first es) count (length (drop first es))
      → take count (drop first es) ≡ filter (λ e. lies_under e.0 above) es
  range_of first count h low k passes fails =
      sym (parted (λ e. lies_under e.0 above) (drop first es) count k passes fails)
      ∙ sym (none_front (λ e. lies_under e.0 above) es first h
      (λ m d l r. before_not_under _ above (low m d l r)))
