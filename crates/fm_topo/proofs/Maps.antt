-- Lists of pairs whose keys ascend.
use Rattle.std.proofs.Common.{◌≡◌, ◌≤◌, ◌+◌, ℕ, Bool, true, false, cond, List, [], ◌∷◌, ◌++◌}
use Rattle.std.proofs.Common.{length, map, fold, refl, arith, ap, sym, ◌∙◌, subst, Option, Some}
use Rattle.std.proofs.Common.{None, is_some, append_assoc, append-nil, true≢false}
use Rattle.std.specs.declared.cmp.Ordering.{Ordering}
use Rattle.std.specs.declared.cmp.Ordering.TheVariants.{Less, Equal, Greater}
use Rattle.std.specs.Ordering.{match_ordering, ordering_reverse}
use Rattle.std.specs.Cmp.{IsTotalOrder}
use Rattle.std.specs.List.{AllByRecursion}
use Rattle.std.specs.List.Sorted.{IsStrictlySortedBy}
use Rattle.std.specs.Map.{lookup, keys_of}
use Rattle.std.specs.BTreeMap.{insert_entry, is_at}

-- the sum of the sizes of elements
abbrev pub total : {X : Type 0} → (X → ℕ) → List X → ℕ
total f [] = 0
total f (x ∷ xs) = f x + total f xs

pub total_push : {X : Type 0} (f : X → ℕ) (xs : List X) (y : X)
    → total f (xs ++ (y ∷ [])) ≡ total f xs + f y
total_push f [] y = omega arith
total_push f (x ∷ xs) y = omega (arith, total_push f xs y)

pub all_map : {X : Type 0} {P Q : X → Type 0} → ((x : X) → P x → Q x) → (xs : List X)
    → AllByRecursion P xs → AllByRecursion Q xs
all_map f [] a = tt
all_map f (x ∷ xs) a = (f x a.0, all_map f xs a.1)

pub all_keys : {K X : Type 0} (P : K → Type 0) → (es : List (K × X)) → AllByRecursion P (keys_of es)
    → AllByRecursion (λ e. P e.0) es
all_keys P [] a = tt
all_keys P (e ∷ es) a = (a.0, all_keys P es a.1)

pub keys_all : {K X : Type 0} (P : K → Type 0) → (es : List (K × X))
    → AllByRecursion (λ e. P e.0) es → AllByRecursion P (keys_of es)
keys_all P [] a = tt
keys_all P (e ∷ es) a = (a.0, keys_all P es a.1)

pub all_middle : {X : Type 0} (P : X → Type 0) (pre post : List X) (e : X)
    → AllByRecursion P (pre ++ (e ∷ post)) → P e
all_middle P [] post e a = a.0
all_middle P (x ∷ pre) post e a = all_middle P pre post e a.1

pub all_front : {X : Type 0} (P : X → Type 0) (pre post : List X) → AllByRecursion P (pre ++ post)
    → AllByRecursion P pre
all_front P [] post a = tt
all_front P (x ∷ pre) post a = (a.0, all_front P pre post a.1)

pub sorted_front : {K X : Type 0} (R : K → K → Ordering) (pre post : List (K × X))
    → IsStrictlySortedBy R (keys_of (pre ++ post)) → IsStrictlySortedBy R (keys_of pre)
unfolding IsStrictlySortedBy
sorted_front R [] post s = tt
sorted_front R (e ∷ pre) post s = (
  keys_all (λ y. R e.0 y ≡ Less) pre
      (all_front (λ z. R e.0 z.0 ≡ Less) pre post
      (all_keys (λ y. R e.0 y ≡ Less) (pre ++ post) s.0)),
  sorted_front R pre post s.1,
)

module _ {K : Type 0} {R : K → K → Ordering} (o : IsTotalOrder R) where
  greater : (x y : K) → R x y ≡ Less → R y x ≡ Greater
  greater x y e = o.antisymm y x ∙ ap ordering_reverse e

  less : (x y : K) → R x y ≡ Greater → R y x ≡ Less
  less x y e = o.antisymm y x ∙ ap ordering_reverse e

  all_below : (k l : K) (ks : List K) → R k l ≡ Less → AllByRecursion (λ y. R l y ≡ Less) ks
      → AllByRecursion (λ y. R k y ≡ Less) ks
  all_below k l ks h a = all_map (λ y p. o.trans k l y h p) ks a

module _ {K X : Type 0} {R : K → K → Ordering} (o : IsTotalOrder R)
    (ties : (x y : K) → R x y ≡ Equal → x ≡ y) where
  -- ---- every pair of a list into which one is put
  all_at : (P : K × X → Type 0) (k : K) (v : X) (e : K × X) (es : List (K × X)) (r : Ordering)
      → R k e.0 ≡ r → P (k, v) → P e → AllByRecursion P es
      → AllByRecursion P (insert_entry R es k v)
      → AllByRecursion P (match_ordering r ((k, v) ∷ e ∷ es) ((e.0, v) ∷ es)
      (e ∷ insert_entry R es k v))
  all_at P k v e es Less h p q a more = (p, (q, a))
  all_at P k v e es Equal h p q a more = (subst (λ z. P (z, v)) (ties k e.0 h) p, a)
  all_at P k v e es Greater h p q a more = (q, more)

  pub all_insert : (P : K × X → Type 0) (es : List (K × X)) (k : K) (v : X) → AllByRecursion P es
      → P (k, v) → AllByRecursion P (insert_entry R es k v)
  all_insert P [] k v a p = (p, tt)
  all_insert P (e ∷ es) k v a p =
      all_at P k v e es (R k e.0) refl p a.0 a.1 (all_insert P es k v a.1 p)

  -- ---- the order of a list into which one is put
  sorted_at : (k : K) (v : X) (e : K × X) (es : List (K × X)) (r : Ordering) → R k e.0 ≡ r
      → AllByRecursion (λ y. R e.0 y ≡ Less) (keys_of es)
      → IsStrictlySortedBy R (keys_of es) → IsStrictlySortedBy R (keys_of (insert_entry R es k v))
      → IsStrictlySortedBy R
      (keys_of (match_ordering r ((k, v) ∷ e ∷ es) ((e.0, v) ∷ es) (e ∷ insert_entry R es k v)))
  unfolding IsStrictlySortedBy
  sorted_at k v e es Less h a s more = ((h, all_below o k e.0 (keys_of es) h a), (a, s))
  sorted_at k v e es Equal h a s more = (a, s)
  sorted_at k v e es Greater h a s more = (
    keys_all (λ y. R e.0 y ≡ Less) (insert_entry R es k v)
        (all_insert (λ x. R e.0 x.0 ≡ Less) es k v (all_keys (λ y. R e.0 y ≡ Less) es a)
        (less o k e.0 h)),
    more,
  )

  pub sorted_insert : (es : List (K × X)) (k : K) (v : X) → IsStrictlySortedBy R (keys_of es)
      → IsStrictlySortedBy R (keys_of (insert_entry R es k v))
  unfolding IsStrictlySortedBy
  sorted_insert [] k v s = (tt, tt)
  sorted_insert (e ∷ es) k v s =
      sorted_at k v e es (R k e.0) refl s.0 s.1 (sorted_insert es k v s.1)

  -- ---- the sizes of a list into which one is put
  total_at : (f : K × X → ℕ) (k : K) (v : X) (e : K × X) (es : List (K × X)) (r : Ordering)
      → R k e.0 ≡ r → total f (insert_entry R es k v) ≤ total f es + f (k, v)
      → total f (match_ordering r ((k, v) ∷ e ∷ es) ((e.0, v) ∷ es) (e ∷ insert_entry R es k v))
      ≤ f e + total f es + f (k, v)
  total_at f k v e es Less h more = omega arith
  total_at f k v e es Equal h more = let q : f (e.0, v) ≡ f (k, v) =
      ap (λ z. f (z, v)) (sym (ties k e.0 h)) in omega (arith, q)
  total_at f k v e es Greater h more = omega (arith, more)

  pub total_insert : (f : K × X → ℕ) (es : List (K × X)) (k : K) (v : X)
      → total f (insert_entry R es k v) ≤ total f es + f (k, v)
  total_insert f [] k v = omega arith
  total_insert f (e ∷ es) k v = total_at f k v e es (R k e.0) refl (total_insert f es k v)

  length_at : (k : K) (v : X) (e : K × X) (es : List (K × X)) (r : Ordering)
      → length (insert_entry R es k v) ≤ length es + 1
      → length (match_ordering r ((k, v) ∷ e ∷ es) ((e.0, v) ∷ es) (e ∷ insert_entry R es k v))
      ≤ length (e ∷ es) + 1
  length_at k v e es Less more = omega arith
  length_at k v e es Equal more = omega arith
  length_at k v e es Greater more = omega (arith, more)

  pub length_insert : (es : List (K × X)) (k : K) (v : X)
      → length (insert_entry R es k v) ≤ length es + 1
  length_insert [] k v = omega arith
  length_insert (e ∷ es) k v = length_at k v e es (R k e.0) (length_insert es k v)

  -- ---- one that is put behind all others
  last_at : (k : K) (v : X) (e : K × X) (es : List (K × X)) (r : Ordering) → r ≡ Greater
      → insert_entry R es k v ≡ es ++ ((k, v) ∷ [])
      → match_ordering r ((k, v) ∷ e ∷ es) ((e.0, v) ∷ es) (e ∷ insert_entry R es k v)
      ≡ e ∷ (es ++ ((k, v) ∷ []))
  last_at k v e es Less h more = cc
  last_at k v e es Equal h more = cc
  last_at k v e es Greater h more = ap (λ r. e ∷ r) more

  pub insert_last : (es : List (K × X)) (k : K) (v : X) → AllByRecursion (λ e. R e.0 k ≡ Less) es
      → insert_entry R es k v ≡ es ++ ((k, v) ∷ [])
  insert_last [] k v a = refl
  insert_last (e ∷ es) k v a =
      last_at k v e es (R k e.0) (greater o e.0 k a.0) (insert_last es k v a.1)

  -- ---- what is found
  not_found : (q : K) (e : K × X) (r : Option X) → R q e.0 ≡ Greater → r ≡ None
      → cond (is_at (R q) e.0) (Some e.1) r ≡ None
  not_found q e r h n = rw h n

  pub lookup_behind : (es : List (K × X)) (k : K) → AllByRecursion (λ e. R e.0 k ≡ Less) es
      → lookup (is_at (R k)) es ≡ None
  lookup_behind [] k a = refl
  lookup_behind (e ∷ es) k a =
      not_found k e (lookup (is_at (R k)) es) (greater o e.0 k a.0) (lookup_behind es k a.1)

  not_before : (q : K) (e : K × X) (r : Option X) → R q e.0 ≡ Less → r ≡ None
      → cond (is_at (R q) e.0) (Some e.1) r ≡ None
  not_before q e r h n = rw h n

  lookup_before : (es : List (K × X)) (q : K) → AllByRecursion (λ e. R q e.0 ≡ Less) es
      → lookup (is_at (R q)) es ≡ None
  lookup_before [] q a = refl
  lookup_before (e ∷ es) q a = not_before q e (lookup (is_at (R q)) es) a.0 (lookup_before es q a.1)

  front_at : (b : Bool) (v : X) (r t : Option X) → (is_some r ≡ true → is_some t ≡ true)
      → is_some (cond b (Some v) r) ≡ true → is_some (cond b (Some v) t) ≡ true
  front_at true v r t f h = refl
  front_at false v r t f h = f h

  -- what is below the others stands in front of them
  pub lookup_front : (pre post : List (K × X)) (q : K) → AllByRecursion (λ e. R q e.0 ≡ Less) post
      → is_some (lookup (is_at (R q)) (pre ++ post)) ≡ true
      → is_some (lookup (is_at (R q)) pre) ≡ true
  lookup_front [] post q a h = absurd (true≢false (sym h ∙ ap is_some (lookup_before post q a)))
  lookup_front (e ∷ pre) post q a h =
      front_at (is_at (R q) e.0) e.1 (lookup (is_at (R q)) (pre ++ post)) (lookup (is_at (R q)) pre)
      (lookup_front pre post q a) h

  some_or : (b : Bool) (v : X) (r : Option X) → is_some r ≡ true
      → is_some (cond b (Some v) r) ≡ true
  some_or true v r h = refl
  some_or false v r h = h

  same_or : (b : Bool) (v w : X) (r : Option X) → is_some (cond b (Some v) r) ≡ true
      → is_some (cond b (Some w) r) ≡ true
  same_or true v w r h = refl
  same_or false v w r h = h

  still_at : (q k : K) (v : X) (e : K × X) (es : List (K × X)) (r : Ordering)
      → (is_some (lookup (is_at (R q)) es) ≡ true
      → is_some (lookup (is_at (R q)) (insert_entry R es k v)) ≡ true)
      → is_some (lookup (is_at (R q)) (e ∷ es)) ≡ true
      → is_some (lookup (is_at (R q))
      (match_ordering r ((k, v) ∷ e ∷ es) ((e.0, v) ∷ es) (e ∷ insert_entry R es k v))) ≡ true
  still_at q k v e es Less more h = some_or (is_at (R q) k) v (lookup (is_at (R q)) (e ∷ es)) h
  still_at q k v e es Equal more h = same_or (is_at (R q) e.0) e.1 v (lookup (is_at (R q)) es) h
  still_at q k v e es Greater more h =
      front_at (is_at (R q) e.0) e.1 (lookup (is_at (R q)) es)
      (lookup (is_at (R q)) (insert_entry R es k v)) more h

  pub lookup_still : (es : List (K × X)) (q k : K) (v : X)
      → is_some (lookup (is_at (R q)) es) ≡ true
      → is_some (lookup (is_at (R q)) (insert_entry R es k v)) ≡ true
  lookup_still [] q k v h = absurd (true≢false (sym h))
  lookup_still (e ∷ es) q k v h = still_at q k v e es (R k e.0) (lookup_still es q k v) h

  -- ---- a list in order that is cut
  pub sorted_cut : (pre post : List (K × X)) (e : K × X)
      → IsStrictlySortedBy R (keys_of (pre ++ (e ∷ post)))
      → AllByRecursion (λ x. R x.0 e.0 ≡ Less) pre × AllByRecursion (λ y. R e.0 y.0 ≡ Less) post
  unfolding IsStrictlySortedBy
  sorted_cut [] post e s = (tt, all_keys (λ y. R e.0 y ≡ Less) post s.0)
  sorted_cut (x ∷ pre) post e s =
      let more = sorted_cut pre post e s.1 in (
        (
          all_middle (λ z. R x.0 z.0 ≡ Less) pre post e
              (all_keys (λ y. R x.0 y ≡ Less) (pre ++ (e ∷ post)) s.0),
          more.0,
        ),
        more.1,
      )

  -- ---- pairs in order, put in one after another
  pub fold_ascending : {L : Type 0} (P : K × X → Type 0) (step : List (K × X) → L → List (K × X))
      (show : K × X → L)
      → ((found : List (K × X)) (e : K × X) → P e
      → step found (show e) ≡ insert_entry R found e.0 e.1)
      → (pre post : List (K × X)) → IsStrictlySortedBy R (keys_of (pre ++ post))
      → AllByRecursion P post → fold step pre (map show post) ≡ pre ++ post
  fold_ascending P step show f pre [] s a = sym (append-nil pre)
  fold_ascending P step show f pre (e ∷ post) s a =
      let q : (pre ++ (e ∷ [])) ++ post ≡ pre ++ (e ∷ post) = append_assoc pre (e ∷ []) post in
      let one : step pre (show e) ≡ pre ++ (e ∷ []) = f pre e a.0
      ∙ insert_last pre e.0 e.1 (sorted_cut pre post e s).0 in
      ap (λ z. fold step z (map show post)) one
      ∙ (fold_ascending P step show f (pre ++ (e ∷ [])) post
      (subst (λ z. IsStrictlySortedBy R (keys_of z)) (sym q) s) a.1 ∙ q)
