-- How often numbers stand in lists, and transposes.
use Rattle.std.proofs.Common.{Result, Ok, Err, ◌≡◌, ◌≢◌, ◌+◌, ◌<◌, ◌≤◌, ◌++◌, ◌⊎◌, ℕ, suc}
use Rattle.std.proofs.Common.{Bool, true, false, cond, eqb, ltb, List, [], ◌∷◌, length, get_or}
use Rattle.std.proofs.Common.{set, refl, sym, ap, subst, ◌∙◌, arith, inl, inr}
use Rattle.std.proofs.Common.{get_or-set_same, get_or-set_other}
use Rattle.std.specs.List.{sum_by, count_by, list_any, list_all, filter}
use Rattle.std.proofs.lemmas.List.{get_or_past, take_all}
use Rattle.std.proofs.lemmas.List.Sums.{sum_by-cons, sum_by_more}
use Rattle.std.proofs.lemmas.List.Sums.{sum_by-le-sum_by}
use Rattle.std.proofs.lemmas.List.Folds.{list_any_at, list_any-append}
use Rattle.std.proofs.lemmas.Bool.{cases_lt, cases_eq, cases_order, cases_Bool, eq-eqb, ne_eqb}
use Rattle.std.proofs.lemmas.Bool.{eqb-true, lt-ltb, le-ltb, or_cases, or_left, or_right, and_parts}
use Rattle.std.proofs.lemmas.Bool.{and_from, cond-true, cond-false, false≢true, false_from_ne_true}
use Rattle.std.specs.Result.{MatchResult, is_ok}
use Rattle.std.specs.Ordering.{nat_cmp}
use Rattle.std.specs.List.Sorted.{IsBinarySearchResult}
use Rattle.std.proofs.lemmas.List.Sorted.{searched}
use Rattle.ev_incidence.specs.Sets.{NodeSet, IsSubset, is_member, occurs, ascends}
use Rattle.ev_incidence.proofs.Ascending.{rises}
use Rattle.ev_incidence.specs.Table.{row_at, IsTranspose, IsTransposeOf, AreNoted}

pub occurs-cons : (v x : ℕ) (xs : List ℕ) → occurs v (x ∷ xs) ≡ cond (eqb x v) 1 0 + occurs v xs
occurs-cons v x xs = sum_by-cons (λ y. cond (eqb y v) 1 0) x xs

-- who stands in a list occurs in it, and back
pub occurs_in : (v : ℕ) (xs : List ℕ) → is_member xs v ≡ true → 0 < occurs v xs
occurs_in v [] h = absurd (false≢true h)
occurs_in v (x ∷ xs) h = elim (or_cases (eqb x v) (is_member xs v) h) [
  | inl here ↦ omega (arith, occurs-cons v x xs, cond-true {A = ℕ} (eqb x v) 1 0 here)
  | inr there ↦ omega (arith, occurs-cons v x xs, occurs_in v xs there)
]

pub in_occurs : (v : ℕ) (xs : List ℕ) → 0 < occurs v xs → is_member xs v ≡ true
in_occurs v [] h = absurd (omega (arith, h))
in_occurs v (x ∷ xs) h = elim (cases_Bool (eqb x v)) [
  | inl here ↦ or_left (eqb x v) (is_member xs v) here
  | inr away ↦ or_right (eqb x v) (is_member xs v)
      (in_occurs v xs (omega (arith, h, occurs-cons v x xs, cond-false {A = ℕ} (eqb x v) 1 0 away)))
]

pub in_at : (xs : List ℕ) (i : ℕ) → i < length xs → is_member xs (get_or xs i 0) ≡ true
in_at xs i l = list_any_at (λ x. eqb x (get_or xs i 0)) xs i 0 l
    (eq-eqb (get_or xs i 0) (get_or xs i 0) refl)

-- the place of a member
pub place_in : (v : ℕ) (xs : List ℕ) → is_member xs v ≡ true → (i : ℕ) × (i < length xs)
    × (get_or xs i 0 ≡ v)
place_in v [] h = absurd (false≢true h)
place_in v (x ∷ xs) h = elim (or_cases (eqb x v) (is_member xs v) h) [
  | inl here ↦ (0, omega arith, eqb-true x v here)
  | inr there ↦ let p = place_in v xs there in (suc p.0, omega (arith, p.1), p.2)
]

pub in_push : (xs : List ℕ) (y v : ℕ) → is_member (xs ++ y ∷ []) v ≡ true → (is_member xs v ≡ true)
    ⊎ (y ≡ v)
in_push [] y v h = elim (or_cases (eqb y v) false h)
    [ inl e ↦ inr (eqb-true y v e) | inr no_one ↦ absurd (false≢true no_one) ]
in_push (x ∷ xs) y v h = elim (or_cases (eqb x v) (is_member (xs ++ y ∷ []) v) h) [
  | inl e ↦ inl (or_left (eqb x v) (is_member xs v) e)
  | inr more ↦ elim (in_push xs y v more)
      [ inl old ↦ inl (or_right (eqb x v) (is_member xs v) old) | inr last ↦ inr last ]
]

pub in_more : (xs ys : List ℕ) (v : ℕ) → is_member xs v ≡ true → is_member (xs ++ ys) v ≡ true
in_more xs ys v h = list_any-append (λ x. eqb x v) xs ys
    ∙ or_left (is_member xs v) (is_member ys v) h

pub in_last : (xs : List ℕ) (y : ℕ) → is_member (xs ++ y ∷ []) y ≡ true
in_last xs y = list_any-append (λ x. eqb x y) xs (y ∷ [])
    ∙ or_right (is_member xs y) (is_member (y ∷ []) y) (or_left (eqb y y) false (eq-eqb y y refl))

-- rows
pub row_same : (rows : List (List ℕ)) (x : ℕ) (r : List ℕ) → x < length rows
    → row_at (set rows x r) x ≡ r
row_same rows x r l = get_or-set_same rows x r [] l

pub row_other : (rows : List (List ℕ)) (x e : ℕ) (r : List ℕ) → e ≢ x
    → row_at (set rows x r) e ≡ row_at rows e
row_other rows x e r ne = get_or-set_other rows x e r [] ne

pub row_in_range : (rows : List (List ℕ)) (j v : ℕ) → is_member (row_at rows j) v ≡ true
    → j < length rows
row_in_range rows j v h = elim (cases_lt j (length rows)) [
  | inl l ↦ l
  | inr past ↦ absurd (false≢true
      (sym (ap (λ (r : List ℕ). is_member r v) (get_or_past rows j [] past))
      ∙ h))
]

-- the transpose of one row more
pub transpose_more : (rows old new : List (List ℕ)) (n : ℕ) → n < length rows
    → IsTransposeOf n rows old → AreNoted (row_at rows n) n old new
    → IsTransposeOf (n + 1) rows new
transpose_more rows old new n l h noted = record {
  each = λ e j. elim (cases_order j n) [
    | inl same ↦
        let m : occurs e (row_at rows n) ≡ occurs e (row_at rows j) =
        ap (λ (k : ℕ). occurs e (row_at rows k)) (sym same) in
        omega (
          arith,
          noted.each e j,
          h.each e j,
          m,
          cond-false {A = ℕ} (ltb j n) (occurs e (row_at rows j)) 0
              (le-ltb j n (omega (arith, same))),
          cond-true {A = ℕ} (ltb j (n + 1)) (occurs e (row_at rows j)) 0
              (lt-ltb j (n + 1) (omega (arith, same))),
          cond-true {A = ℕ} (eqb j n) (occurs e (row_at rows n)) 0 (eq-eqb j n same),
        )
    | inr other ↦ elim other [
      | inl below ↦ omega (
        arith,
        noted.each e j,
        h.each e j,
        cond-true {A = ℕ} (ltb j n) (occurs e (row_at rows j)) 0 (lt-ltb j n below),
        cond-true {A = ℕ} (ltb j (n + 1)) (occurs e (row_at rows j)) 0
            (lt-ltb j (n + 1) (omega (arith, below))),
        cond-false {A = ℕ} (eqb j n) (occurs e (row_at rows n)) 0
            (ne_eqb j n (λ q. absurd (omega (arith, q, below)))),
      )
      | inr above ↦ omega (
        arith,
        noted.each e j,
        h.each e j,
        cond-false {A = ℕ} (ltb j n) (occurs e (row_at rows j)) 0
            (le-ltb j n (omega (arith, above))),
        cond-false {A = ℕ} (ltb j (n + 1)) (occurs e (row_at rows j)) 0
            (le-ltb j (n + 1) (omega (arith, above))),
        cond-false {A = ℕ} (eqb j n) (occurs e (row_at rows n)) 0
            (ne_eqb j n (λ q. absurd (omega (arith, q, above)))),
      )
    ]
  ];
  total = omega (arith, noted.total, h.total, sum_by_more (λ (r : List ℕ). length r) rows n [] l);
}

pub transpose_all : (rows index : List (List ℕ)) → IsTransposeOf (length rows) rows index
    → IsTranspose rows index
transpose_all rows index h = record {
  each = λ e j. elim (cases_lt j (length rows)) [
    | inl l ↦ h.each e j ∙ cond-true {A = ℕ} (ltb j (length rows)) (occurs e (row_at rows j)) 0
        (lt-ltb j (length rows) l)
    | inr past ↦ h.each e j
        ∙ (cond-false {A = ℕ} (ltb j (length rows)) (occurs e (row_at rows j)) 0
        (le-ltb j (length rows) past)
        ∙ sym (ap (λ (r : List ℕ). occurs e r) (get_or_past rows j [] past)))
  ];
  total = h.total ∙ ap (λ (rs : List (List ℕ)). sum_by length rs)
      (take_all (length rows) rows (omega arith));
}

-- who stands in a row of a transpose, stands there
pub transposed_in : (rows index : List (List ℕ)) (e j : ℕ) → IsTranspose rows index
    → is_member (row_at index e) j ≡ true → is_member (row_at rows j) e ≡ true
transposed_in rows index e j h i =
    in_occurs e (row_at rows j) (omega (arith, h.each e j, occurs_in j (row_at index e) i))

pub in_transposed : (rows index : List (List ℕ)) (e j : ℕ) → IsTranspose rows index
    → is_member (row_at rows j) e ≡ true → is_member (row_at index e) j ≡ true
in_transposed rows index e j h i =
    in_occurs j (row_at index e) (omega (arith, h.each e j, occurs_in e (row_at rows j) i))

-- what a binary search in ascending numbers says
found_is : (xs : List ℕ) (x : ℕ) (r : Result ℕ ℕ)
    → MatchResult r (λ i. (i < length xs) × (get_or xs i 0 ≡ x))
    (λ i. (i ≤ length xs) × ((k : ℕ) → k < i → get_or xs k 0 < x)
    × ((k : ℕ) → i ≤ k → k < length xs → x < get_or xs k 0))
    → is_ok r ≡ is_member xs x
found_is xs x (Ok i) (l, e) =
    sym (let P : ℕ → Type 0 = λ z. is_member xs z ≡ true in subst P e (in_at xs i l))
found_is xs x (Err i) (l, low, high) = sym (false_from_ne_true (is_member xs x) (λ h.
    let p = place_in x xs h in
    elim (cases_lt p.0 i) [
      | inl lt ↦ absurd (omega (arith, low p.0 lt, p.2))
      | inr ge ↦ absurd (omega (arith, high p.0 ge p.1, p.2))
    ]))

pub search_is : (xs : List ℕ) (x : ℕ) (r : Result ℕ ℕ)
    → IsBinarySearchResult (λ y. nat_cmp y x) xs r → ascends xs ≡ true → is_ok r ≡ is_member xs x
search_is xs x r h up = found_is xs x r (searched xs x r h (λ i j le l. elim (cases_eq i j) [
  | inl same ↦ omega (arith, ap (λ (k : ℕ). get_or xs k 0) same)
  | inr ne ↦ omega (arith, rises xs i j up (omega (arith, le, ne)) l)
]))

-- filters
pub filter_yes : (p : ℕ → Bool) (x : ℕ) (xs : List ℕ) → p x ≡ true
    → filter p (x ∷ xs) ≡ x ∷ filter p xs
filter_yes p x xs h = cond-true {A = List ℕ} (p x) (x ∷ filter p xs) (filter p xs) h

pub filter_no : (p : ℕ → Bool) (x : ℕ) (xs : List ℕ) → p x ≡ false → filter p (x ∷ xs) ≡ filter p xs
filter_no p x xs h = cond-false {A = List ℕ} (p x) (x ∷ filter p xs) (filter p xs) h

-- of the numbers that pass, each stands there as often as before
pub occurs_filter : (p : ℕ → Bool) (v : ℕ) (xs : List ℕ)
    → occurs v (filter p xs) ≡ cond (p v) (occurs v xs) 0
occurs_filter p v [] =
    elim (cases_Bool (p v))
    [ inl h ↦ sym (cond-true {A = ℕ} (p v) 0 0 h) | inr h ↦ sym (cond-false {A = ℕ} (p v) 0 0 h) ]
occurs_filter p v (x ∷ xs) = elim (cases_Bool (p x)) [
  | inl yes_one ↦ elim (cases_eq x v) [
    | inl same ↦
        let pv : p v ≡ true = ap p (sym same) ∙ yes_one in
        omega (
          arith,
          ap (λ (ys : List ℕ). occurs v ys) (filter_yes p x xs yes_one),
          occurs-cons v x (filter p xs),
          occurs-cons v x xs,
          occurs_filter p v xs,
          cond-true {A = ℕ} (p v) (occurs v xs) 0 pv,
          cond-true {A = ℕ} (p v) (occurs v (x ∷ xs)) 0 pv,
        )
    | inr ne ↦
        let miss : cond (eqb x v) 1 0 ≡ 0 = cond-false {A = ℕ} (eqb x v) 1 0 (ne_eqb x v ne) in
        let same : occurs v (x ∷ xs) ≡ occurs v xs = omega (arith, occurs-cons v x xs, miss) in
        omega (
          arith,
          ap (λ (ys : List ℕ). occurs v ys) (filter_yes p x xs yes_one),
          occurs-cons v x (filter p xs),
          occurs_filter p v xs,
          miss,
          ap (λ (m : ℕ). cond (p v) m 0) same,
        )
  ]
  | inr no_one ↦ elim (cases_eq x v) [
    | inl same ↦
        let pv : p v ≡ false = ap p (sym same) ∙ no_one in
        omega (
          arith,
          ap (λ (ys : List ℕ). occurs v ys) (filter_no p x xs no_one),
          occurs_filter p v xs,
          cond-false {A = ℕ} (p v) (occurs v xs) 0 pv,
          cond-false {A = ℕ} (p v) (occurs v (x ∷ xs)) 0 pv,
        )
    | inr ne ↦
        let miss : cond (eqb x v) 1 0 ≡ 0 = cond-false {A = ℕ} (eqb x v) 1 0 (ne_eqb x v ne) in
        let same : occurs v (x ∷ xs) ≡ occurs v xs = omega (arith, occurs-cons v x xs, miss) in
        omega (
          arith,
          ap (λ (ys : List ℕ). occurs v ys) (filter_no p x xs no_one),
          occurs_filter p v xs,
          ap (λ (m : ℕ). cond (p v) m 0) same,
        )
  ]
]

-- a larger set has more of a list
pub count_within : (X Y : NodeSet) (xs : List ℕ) → IsSubset X Y → count_by X xs ≤ count_by Y xs
count_within X Y xs h =
    sum_by-le-sum_by (λ x. cond (X x) 1 0) (λ x. cond (Y x) 1 0) xs (λ x. one x) where
      one : (x : ℕ) → cond (X x) 1 0 ≤ cond (Y x) 1 0
      one x = elim (cases_Bool (X x)) [
        | inl here ↦ omega (
          arith,
          cond-true {A = ℕ} (X x) 1 0 here,
          cond-true {A = ℕ} (Y x) 1 0 (h x here),
        )
        | inr away ↦ omega (arith, cond-false {A = ℕ} (X x) 1 0 away)
      ]

-- members that pass
pub in_filter : (p : ℕ → Bool) (v : ℕ) (xs : List ℕ) → p v ≡ true → is_member xs v ≡ true
    → is_member (filter p xs) v ≡ true
in_filter p v xs h i =
    in_occurs v (filter p xs)
    (omega (
      arith,
      occurs_filter p v xs,
      cond-true {A = ℕ} (p v) (occurs v xs) 0 h,
      occurs_in v xs i,
    ))

pub filter_in : (p : ℕ → Bool) (v : ℕ) (xs : List ℕ) → is_member (filter p xs) v ≡ true
    → (p v ≡ true)
    × (is_member xs v ≡ true)
filter_in p v xs h = elim (cases_Bool (p v)) [
  | inl pass ↦ (
    pass,
    in_occurs v xs
        (omega (
          arith,
          occurs_in v (filter p xs) h,
          occurs_filter p v xs,
          cond-true {A = ℕ} (p v) (occurs v xs) 0 pass,
        )),
  )
  | inr fail ↦ absurd (omega (
    arith,
    occurs_in v (filter p xs) h,
    occurs_filter p v xs,
    cond-false {A = ℕ} (p v) (occurs v xs) 0 fail,
  ))
]

-- tests of all members and of some
pub all_in : (p : ℕ → Bool) (xs : List ℕ) (x : ℕ) → list_all p xs ≡ true → is_member xs x ≡ true
    → p x ≡ true
all_in p [] x h i = absurd (false≢true i)
all_in p (y ∷ ys) x h i =
    let q = and_parts (p y) (list_all p ys) h in
    elim (or_cases (eqb y x) (is_member ys x) i) [
      | inl here ↦ ap p (sym (eqb-true y x here)) ∙ q.0
      | inr there ↦ all_in p ys x q.1 there
    ]

pub all_from : (p : ℕ → Bool) (xs : List ℕ) → ((x : ℕ) → is_member xs x ≡ true → p x ≡ true)
    → list_all p xs ≡ true
all_from p [] h = refl
all_from p (y ∷ ys) h =
    and_from (p y) (list_all p ys) (h y (or_left (eqb y y) (is_member ys y) (eq-eqb y y refl)))
    (all_from p ys (λ x i. h x (or_right (eqb y x) (is_member ys x) i)))

pub any_in : (p : ℕ → Bool) (xs : List ℕ) → list_any p xs ≡ true → (x : ℕ) × (is_member xs x ≡ true)
    × (p x ≡ true)
any_in p [] h = absurd (false≢true h)
any_in p (y ∷ ys) h = elim (or_cases (p y) (list_any p ys) h) [
  | inl here ↦ (y, or_left (eqb y y) (is_member ys y) (eq-eqb y y refl), here)
  | inr more ↦ let q = any_in p ys more in (q.0, or_right (eqb y q.0) (is_member ys q.0) q.1, q.2)
]

pub any_from : (p : ℕ → Bool) (xs : List ℕ) (x : ℕ) → is_member xs x ≡ true → p x ≡ true
    → list_any p xs ≡ true
any_from p [] x i h = absurd (false≢true i)
any_from p (y ∷ ys) x i h = elim (or_cases (eqb y x) (is_member ys x) i) [
  | inl here ↦ or_left (p y) (list_any p ys) (ap p (eqb-true y x here) ∙ h)
  | inr there ↦ or_right (p y) (list_any p ys) (any_from p ys x there h)
]
