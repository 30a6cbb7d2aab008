-- Records in the order of their numbers, where those of one number and one module stand as before:
-- the records of each module are in their order still.
use Rattle.std.proofs.Common.{◌≡◌, inl, inr, ℕ, suc, ◌+◌, ◌<◌, ◌≤◌, Bool, true}
use Rattle.std.proofs.Common.{false, ◌==◌, ◌&&◌, List, [], ◌∷◌, length, cond, not, refl, sym}
use Rattle.std.proofs.Common.{◌∙◌, ap, subst, arith}
use Rattle.std.proofs.lemmas.Bool.{cases_eq, cases_lt}
use Rattle.std.proofs.lemmas.List.Sorted.{sorted_far, ranks_by}
use Rattle.std.specs.Cmp.{IsTotalOrder, then_total, on_total, nat_cmp_total}
use Rattle.std.specs.List.{AllByRecursion, filter, slice_index_or}
use Rattle.std.specs.List.Sorted.{IsSorted, IsStable, ties}
use Rattle.std.specs.Ordering.{nat_cmp, ordering_then, ordering_reverse, is_eq, is_lt}
use Rattle.std.specs.declared.cmp.Ordering.{Ordering}
use Rattle.std.specs.declared.cmp.Ordering.TheVariants.{Less, Equal, Greater}
use Rattle.fm_entry.specs.declared.spoken.Spoken.{Spoken}
use Rattle.fm_core.specs.Records.{of_module, IsAscending}
use Rattle.fm_core.proofs.Lists.{all_map, all_filter, filter_none}
use Rattle.fm_core.proofs.Tests.{lt_true, lt_false, eq_true, eq_false}
use Rattle.fm_logs.specs.LogReads.{record_order}

-- ---- lists whose keys rise

module _ {X : Type 0} (key : X → ℕ) where
  -- no key is below an earlier one
  abbrev pub Rises : List X → Type 0
  Rises [] = Unit {0}
  Rises (x ∷ xs) = AllByRecursion (λ y. key x ≤ key y) xs × Rises xs

  -- the elements of one key
  abbrev pub group : ℕ → List X → List X
  group n xs = filter (λ y. key y == n) xs

  group_first : (x : X) (xs : List X) → group (key x) (x ∷ xs) ≡ x ∷ group (key x) xs
  group_first x xs = ap (λ b. cond b (x ∷ group (key x) xs) (group (key x) xs))
      (eq_true (key x) (key x) refl)

  group_rest : (n : ℕ) (x y : X) (xs ys : List X) → x ≡ y → (b : Bool) → (key x == n) ≡ b
      → group n (x ∷ xs) ≡ group n (y ∷ ys) → group n xs ≡ group n ys
  group_rest n x y xs ys same true e all =
      let one : group n (x ∷ xs) ≡ x ∷ group n xs =
      ap (λ b. cond b (x ∷ group n xs) (group n xs)) e in
      let other : group n (y ∷ ys) ≡ y ∷ group n ys =
      ap (λ b. cond b (y ∷ group n ys) (group n ys)) (ap (λ z. key z == n) (sym same) ∙ e) in
      let both : x ∷ group n xs ≡ y ∷ group n ys = sym one ∙ (all ∙ other) in
      cc
  group_rest n x y xs ys same false e all =
      let one : group n (x ∷ xs) ≡ group n xs =
      ap (λ b. cond b (x ∷ group n xs) (group n xs)) e in
      let other : group n (y ∷ ys) ≡ group n ys =
      ap (λ b. cond b (y ∷ group n ys) (group n ys)) (ap (λ z. key z == n) (sym same) ∙ e) in
      sym one ∙ (all ∙ other)

  above_none : (n : ℕ) (y : X) (ys : List X) → n < key y → AllByRecursion (λ z. key y ≤ key z) ys
      → group n (y ∷ ys) ≡ []
  above_none n y ys low above = filter_none (λ z. key z == n) (y ∷ ys)
      (all_map (λ z. key y ≤ key z) (λ z. (key z == n) ≡ false) (y ∷ ys)
      (λ z at. eq_false (key z) n (λ e. let no : ⊥ = omega (arith, low, at, e) in no))
      (omega arith, above))

  -- Lists whose keys rise, and which have the same elements of each key, are the same.
  pub same_groups : (xs ys : List X) → Rises xs → Rises ys
      → ((n : ℕ) → group n xs ≡ group n ys) → xs ≡ ys
  same_groups [] [] up more same = refl
  same_groups [] (y ∷ ys) up more same =
      let no : [] ≡ y ∷ group (key y) ys = same (key y) ∙ group_first y ys in
      absurd (cc no)
  same_groups (x ∷ xs) [] up more same =
      let no : [] ≡ x ∷ group (key x) xs = sym (same (key x)) ∙ group_first x xs in
      absurd (cc no)
  same_groups (x ∷ xs) (y ∷ ys) up more same = elim (cases_eq (key x) (key y)) [
    | inl level ↦
        let first : x ∷ group (key x) xs ≡ y ∷ group (key x) ys =
        sym (group_first x xs) ∙ (same (key x)
        ∙ (ap (λ n. group n (y ∷ ys)) level ∙ (group_first y ys
        ∙ ap (λ n. y ∷ group n ys) (sym level)))) in
        let one : x ≡ y = cc in
        let rest : xs ≡ ys = same_groups xs ys up.1 more.1
        (λ n. group_rest n x y xs ys one (key x == n) refl (same n)) in
        cc
    | inr differs ↦ elim (cases_lt (key x) (key y)) [
      | inl low ↦
          let no : x ∷ group (key x) xs ≡ [] =
          sym (group_first x xs) ∙ (same (key x) ∙ above_none (key x) y ys low more.0) in
          absurd (cc no)
      | inr high ↦
          let low : key y < key x = omega (arith, high, differs) in
          let no : y ∷ group (key y) ys ≡ [] =
          sym (group_first y ys) ∙ (sym (same (key y)) ∙ above_none (key y) x xs low up.0) in
          absurd (cc no)
    ]
  ]

-- ---- the order of records

record_total : IsTotalOrder record_order
record_total = then_total (on_total (λ r. r.number) nat_cmp_total)
    (on_total (λ r. r.«module») nat_cmp_total)

abbrev before : Spoken → Spoken → Bool
before x y = is_lt (record_order x y)

tied_by : (o : Ordering) → (not (is_lt (ordering_reverse o)) && not (is_lt o)) ≡ is_eq o
tied_by Less = refl
tied_by Equal = refl
tied_by Greater = refl

then_tied : (a b : Ordering) → is_eq (ordering_then a b) ≡ (is_eq a && is_eq b)
then_tied Less b = refl
then_tied Equal b = refl
then_tied Greater b = refl

cmp_tied : (a b : ℕ) → is_eq (nat_cmp a b) ≡ (a == b)
cmp_tied a b = elim (cases_lt a b) [
  | inl low ↦ ap (λ t. is_eq (cond t Less (cond (a == b) Equal Greater))) (lt_true a b low)
      ∙ sym (eq_false a b (λ e. let no : ⊥ = omega (arith, low, e) in no))
  | inr high ↦ ap (λ t. is_eq (cond t Less (cond (a == b) Equal Greater))) (lt_false a b high)
      ∙ level (a == b)
]
  where
    level : (t : Bool) → is_eq (cond t Equal Greater) ≡ t
    level true = refl
    level false = refl

-- a record of this module and this number
abbrev mark : ℕ → ℕ → Spoken
mark i n = record { «module» = i; number = n; events = [] }

tie_is : (i n : ℕ) (r : Spoken)
    → ties before (mark i n) r ≡ ((r.number == n) && (r.«module» == i))
tie_is i n r =
    ap (λ o. not (is_lt o) && not (before r (mark i n))) (record_total.antisymm (mark i n) r)
    ∙ (tied_by (record_order r (mark i n))
    ∙ (then_tied (nat_cmp r.number n) (nat_cmp r.«module» i)
    ∙ (ap (λ t. t && is_eq (nat_cmp r.«module» i)) (cmp_tied r.number n)
    ∙ ap (λ t. (r.number == n) && t) (cmp_tied r.«module» i))))

both_step : {X : Type 0} (p q t : X → Bool) (x : X) (xs : List X)
    → filter q (filter p xs) ≡ filter t xs → t x ≡ (q x && p x) → (a b : Bool) → q x ≡ a
    → p x ≡ b → filter q (filter p (x ∷ xs)) ≡ filter t (x ∷ xs)
both_step p q t x xs more both true true e f = simp (both, e, f) (ap (λ l. x ∷ l) more)
both_step p q t x xs more both true false e f = simp (both, e, f) more
both_step p q t x xs more both false true e f = simp (both, e, f) more
both_step p q t x xs more both false false e f = simp (both, e, f) more

-- two filters are one
both_filters : {X : Type 0} (p q t : X → Bool) (xs : List X)
    → ((x : X) → t x ≡ (q x && p x)) → filter q (filter p xs) ≡ filter t xs
both_filters p q t [] both = refl
both_filters p q t (x ∷ xs) both =
    both_step p q t x xs (both_filters p q t xs both) (both x) (q x) (p x) refl refl

-- the records of one module and one number are those that tie with such a one
group_is : (i n : ℕ) (rs : List Spoken)
    → group (λ r. r.number) n (of_module i rs) ≡ filter (ties before (mark i n)) rs
group_is i n rs = both_filters (λ r. r.«module» == i) (λ r. r.number == n)
    (ties before (mark i n)) rs (tie_is i n)

-- ---- what is sorted

not_before : (x y : Spoken) → before y x ≡ false → x.number ≤ y.number
not_before x y h = elim (cases_lt y.number x.number) [
  | inl low ↦
      let no : true ≡ false =
      sym (ap (λ t. is_lt (ordering_then (cond t Less (cond (y.number == x.number) Equal Greater))
      (nat_cmp y.«module» x.«module»))) (lt_true y.number x.number low)) ∙ h in
      absurd (cc no)
  | inr high ↦ high
]

all_from : (xs : List Spoken) (P : Spoken → Type 0)
    → ((k : ℕ) (d : Spoken) → k < length xs → P (slice_index_or xs k d)) → AllByRecursion P xs
all_from [] P each = tt
all_from (x ∷ xs) P each =
    (each 0 x (omega arith), all_from xs P (λ k d low. each (suc k) d (omega (arith, low))))

sorted_rest : (x : Spoken) (xs : List Spoken) → IsSorted record_order (x ∷ xs)
    → IsSorted record_order xs
sorted_rest x xs s k d low high =
    let next : suc k + 1 ≡ suc (k + 1) = omega arith in
    subst (λ (n : ℕ). before (slice_index_or (x ∷ xs) n d) (slice_index_or xs k d) ≡ false) next
    (s (suc k) d (omega arith) (omega (arith, high)))

sorted_rises : (xs : List Spoken) → IsSorted record_order xs → Rises (λ r. r.number) xs
sorted_rises [] s = tt
sorted_rises (x ∷ xs) s = (
  all_from xs (λ y. x.number ≤ y.number)
      (λ k d low. not_before x (slice_index_or xs k d)
      (sorted_far before (ranks_by record_total (λ r. r)) (x ∷ xs) s 0 (suc k) d (omega arith)
      (omega (arith, low)))),
  sorted_rises xs (sorted_rest x xs s),
)

ascending_rises : (xs : List Spoken) → IsAscending xs → Rises (λ r. r.number) xs
ascending_rises [] a = tt
ascending_rises (x ∷ xs) a = (
  all_map (λ y. x.number < y.number) (λ y. x.number ≤ y.number) xs
      (λ y low. omega (arith, low)) a.0,
  ascending_rises xs a.1,
)

filter_rises : (p : Spoken → Bool) (x : Spoken) (xs : List Spoken)
    → Rises (λ r. r.number) (x ∷ xs) → Rises (λ r. r.number) (filter p xs) → (b : Bool) → p x ≡ b
    → Rises (λ r. r.number) (filter p (x ∷ xs))
filter_rises p x xs up more true e =
    rw e (all_filter (λ y. x.number ≤ y.number) p xs up.0, more)
filter_rises p x xs up more false e = rw e more

module_rises : (i : ℕ) (xs : List Spoken) → Rises (λ r. r.number) xs
    → Rises (λ r. r.number) (of_module i xs)
module_rises i [] up = tt
module_rises i (x ∷ xs) up = filter_rises (λ r. r.«module» == i) x xs up (module_rises i xs up.1)
    (x.«module» == i) refl

-- The records of a module are the same ones in the same order.
pub ordered_alike : (i : ℕ) (log found : List Spoken) → IsSorted record_order found
    → IsStable record_order log found → IsAscending (of_module i log)
    → of_module i found ≡ of_module i log
ordered_alike i log found sorted stable ascend =
    same_groups (λ r. r.number) (of_module i found) (of_module i log)
    (module_rises i found (sorted_rises found sorted)) (ascending_rises (of_module i log) ascend)
    (λ n. group_is i n found ∙ (stable (mark i n) ∙ sym (group_is i n log)))
