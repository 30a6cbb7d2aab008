-- Lists, their maps and filters, item by item.
use Rattle.std.proofs.Common.{◌≡◌, ◌+◌, ◌<◌, ◌≤◌, ◌++◌, ℕ, zero, suc, Bool, true, false}
use Rattle.std.proofs.Common.{List, [], ◌∷◌, eqb, ltb, length, get_or, take, map, slice_get}
use Rattle.std.proofs.Common.{refl, sym, ap, subst, ◌∙◌, inl, inr, arith, Some}
use Rattle.std.specs.List.{filter, list_all, list_any}
use Rattle.std.proofs.lemmas.Bool.{cases_Bool, and_parts, and_from, or_cases, or_left, or_right}
use Rattle.std.proofs.lemmas.Bool.{eq-eqb, eqb-true, ltb-true, false≢true}
use Rattle.std.proofs.lemmas.Bool.{cond-true, cond-false}
use Rattle.std.proofs.lemmas.List.{take_more, take_all, length-map, get_or-map}
use Rattle.std.proofs.lemmas.List.Elements.{filter-append}
use Rattle.std.proofs.lemmas.Option.{same_Some}
use Rattle.ev_incidence.specs.Sets.{NodeSet, is_member, ascends}
use Rattle.dx_case.specs.declared.candidate.Candidate.{Candidate}
use Rattle.dx_case.specs.Candidates.{roots_in}
use Rattle.dx_live.proofs.Marking.{ascends_cons, ascends_tail}

append_nil : {A : Type 0} (xs : List A) → xs ++ [] ≡ xs
append_nil [] = refl
append_nil {A} (x ∷ xs) = ap (λ (zs : List A). x ∷ zs) (append_nil xs)

module _ {A : Type 0} (p : A → Bool) where
  pub yes : (x : A) (xs : List A) → p x ≡ true → filter p (x ∷ xs) ≡ x ∷ filter p xs
  yes x xs h = cond-true {A = List A} (p x) (x ∷ filter p xs) (filter p xs) h

  pub skip : (x : A) (xs : List A) → p x ≡ false → filter p (x ∷ xs) ≡ filter p xs
  skip x xs h = cond-false {A = List A} (p x) (x ∷ filter p xs) (filter p xs) h

  pub filter_more : (xs : List A) (i : ℕ) (d : A) (ys : List A) → i < length xs
      → p (get_or xs i d) ≡ true → ys ≡ filter p (take i xs)
      → ys ++ get_or xs i d ∷ [] ≡ filter p (take (i + 1) xs)
  filter_more xs i d ys l h is =
      let x = get_or xs i d in
      ap (λ (zs : List A). zs ++ x ∷ []) is
      ∙ (ap (λ (zs : List A). filter p (take i xs) ++ zs) (sym (yes x [] h))
      ∙ (sym (filter-append p (take i xs) (x ∷ []))
      ∙ ap (filter p) (sym (take_more xs i d l))))

  pub filter_past : (xs : List A) (i : ℕ) (d : A) (ys : List A) → i < length xs
      → p (get_or xs i d) ≡ false → ys ≡ filter p (take i xs)
      → ys ≡ filter p (take (i + 1) xs)
  filter_past xs i d ys l h is =
      let x = get_or xs i d in
      is ∙ (sym (append_nil (filter p (take i xs)))
      ∙ (ap (λ (zs : List A). filter p (take i xs) ++ zs) (sym (skip x [] h))
      ∙ (sym (filter-append p (take i xs) (x ∷ []))
      ∙ ap (filter p) (sym (take_more xs i d l)))))

  kept_first : (y : A) (ys : List A) (i : ℕ) (x : A)
      → ((i : ℕ) (x : A) → slice_get (filter p ys) i ≡ Some x
      → (j : ℕ) × (slice_get ys j ≡ Some x) × (p x ≡ true))
      → slice_get (y ∷ filter p ys) i ≡ Some x → p y ≡ true
      → (j : ℕ) × (slice_get (y ∷ ys) j ≡ Some x) × (p x ≡ true)
  kept_first y ys zero x rest h here = (0, h, ap p (sym (same_Some y x h)) ∙ here)
  kept_first y ys (suc i) x rest h here = let r = rest i x h in (suc r.0, r.1, r.2)

  -- items of a filtered list
  pub kept_from : (xs : List A) (i : ℕ) (x : A) → slice_get (filter p xs) i ≡ Some x
      → (j : ℕ) × (slice_get xs j ≡ Some x) × (p x ≡ true)
  kept_from [] i x h = absurd (let no_item : ⊥ = cc in no_item)
  kept_from (y ∷ ys) i x h = elim (cases_Bool (p y)) [
    | inl here ↦ kept_first y ys i x (kept_from ys)
        (sym (ap (λ (zs : List A). slice_get zs i) (yes y ys here)) ∙ h) here
    | inr away ↦
        let r = kept_from ys i x
        (sym (ap (λ (zs : List A). slice_get zs i) (skip y ys away)) ∙ h) in
        (suc r.0, r.1, r.2)
  ]

  pub kept_at : (xs : List A) (j : ℕ) (x : A) → slice_get xs j ≡ Some x → p x ≡ true
      → (i : ℕ) × (slice_get (filter p xs) i ≡ Some x)
  kept_at [] j x h t = absurd (let no_item : ⊥ = cc in no_item)
  kept_at (y ∷ ys) zero x h t = (
    0,
    ap (λ (zs : List A). slice_get zs 0)
        (yes y ys (ap p (same_Some y x h) ∙ t)) ∙ h,
  )
  kept_at (y ∷ ys) (suc j) x h t =
      let r = kept_at ys j x h t in
      elim (cases_Bool (p y)) [
        | inl here ↦ (suc r.0, ap (λ (zs : List A). slice_get zs (suc r.0)) (yes y ys here) ∙ r.1)
        | inr away ↦ (r.0, ap (λ (zs : List A). slice_get zs r.0) (skip y ys away) ∙ r.1)
      ]

  pub all_kept : (xs : List A) → list_all p (filter p xs) ≡ true
  all_kept [] = refl
  all_kept (y ∷ ys) = elim (cases_Bool (p y)) [
    | inl here ↦ ap (list_all p) (yes y ys here)
        ∙ and_from (p y) (list_all p (filter p ys)) here (all_kept ys)
    | inr away ↦ ap (list_all p) (skip y ys away) ∙ all_kept ys
  ]

  pub none_lost : (xs : List A) → list_all p xs ≡ true → filter p xs ≡ xs
  none_lost [] h = refl
  none_lost (y ∷ ys) h =
      let q = and_parts (p y) (list_all p ys) h in
      yes y ys q.0 ∙ ap (λ (zs : List A). y ∷ zs) (none_lost ys q.1)

  pub all_at : (xs : List A) (i : ℕ) (x : A) → list_all p xs ≡ true → slice_get xs i ≡ Some x
      → p x ≡ true
  all_at [] i x h s = absurd (let no_item : ⊥ = cc in no_item)
  all_at (y ∷ ys) zero x h s =
      ap p (sym (same_Some y x s)) ∙ (and_parts (p y) (list_all p ys) h).0
  all_at (y ∷ ys) (suc i) x h s = all_at ys i x (and_parts (p y) (list_all p ys) h).1 s

  pub some_at : (xs : List A) → list_any p xs ≡ true
      → (i : ℕ) × (x : A) × (slice_get xs i ≡ Some x) × (p x ≡ true)
  some_at [] h = absurd (false≢true h)
  some_at (y ∷ ys) h = elim (or_cases (p y) (list_any p ys) h) [
    | inl here ↦ (0, y, refl, here)
    | inr there ↦ let r = some_at ys there in (suc r.0, r.1, r.2, r.3)
  ]

  pub at_some : (xs : List A) (i : ℕ) (x : A) → slice_get xs i ≡ Some x → p x ≡ true
      → list_any p xs ≡ true
  at_some [] i x s h = absurd (let no_item : ⊥ = cc in no_item)
  at_some (y ∷ ys) zero x s h = or_left (p y) (list_any p ys) (ap p (same_Some y x s) ∙ h)
  at_some (y ∷ ys) (suc i) x s h = or_right (p y) (list_any p ys) (at_some ys i x s h)

-- numbers that are made of items
module _ {A : Type 0} (f : A → ℕ) where
  pub made_from : (xs : List A) (v : ℕ) → is_member (map f xs) v ≡ true
      → (i : ℕ) × (x : A) × (slice_get xs i ≡ Some x) × (f x ≡ v)
  made_from [] v h = absurd (false≢true h)
  made_from (x ∷ xs) v h = elim (or_cases (eqb (f x) v) (is_member (map f xs) v) h) [
    | inl here ↦ (0, x, refl, eqb-true (f x) v here)
    | inr there ↦ let r = made_from xs v there in (suc r.0, r.1, r.2, r.3)
  ]

  pub made_at : (xs : List A) (i : ℕ) (x : A) → slice_get xs i ≡ Some x
      → is_member (map f xs) (f x) ≡ true
  made_at [] i x s = absurd (let no_item : ⊥ = cc in no_item)
  made_at (y ∷ ys) zero x s =
      or_left (eqb (f y) (f x)) (is_member (map f ys) (f x))
      (eq-eqb (f y) (f x) (ap f (same_Some y x s)))
  made_at (y ∷ ys) (suc i) x s =
      or_right (eqb (f y) (f x)) (is_member (map f ys) (f x)) (made_at ys i x s)

-- a part of an ascending list ascends
above_all : (x : ℕ) (xs : List ℕ) → ascends (x ∷ xs) ≡ true → (y : ℕ)
    → is_member xs y ≡ true → x < y
above_all x [] h y i = absurd (false≢true i)
above_all x (z ∷ zs) h y i =
    let p = and_parts (ltb x z) (ascends (z ∷ zs)) h in
    elim (or_cases (eqb z y) (is_member zs y) i) [
      | inl here ↦ omega (arith, ltb-true x z p.0, eqb-true z y here)
      | inr there ↦ omega (arith, ltb-true x z p.0, above_all z zs p.1 y there)
    ]

pub ascends_part : {A : Type 0} (f : A → ℕ) (p : A → Bool) (xs : List A)
    → ascends (map f xs) ≡ true → ascends (map f (filter p xs)) ≡ true
ascends_part f p [] h = refl
ascends_part {A} f p (x ∷ xs) h =
    let rest = ascends_part f p xs (ascends_tail (f x) (map f xs) h) in
    elim (cases_Bool (p x)) [
      | inl here ↦ ap (λ (zs : List A). ascends (map f zs)) (yes p x xs here)
          ∙ ascends_cons (f x) (map f (filter p xs)) rest (λ y i.
          let r = made_from f (filter p xs) y i in
          let s = kept_from p xs r.0 r.1 r.2 in
          let P : ℕ → Type 0 = λ z. f x < z in
          subst P r.3 (above_all (f x) (map f xs) h (f r.1) (made_at f xs s.0 r.1 s.1)))
      | inr away ↦ ap (λ (zs : List A). ascends (map f zs)) (skip p x xs away) ∙ rest
    ]

-- two ascending lists with the same members are one
pub same_list : (xs ys : List ℕ) → ascends xs ≡ true → ascends ys ≡ true
    → ((e : ℕ) → is_member xs e ≡ true → is_member ys e ≡ true)
    → ((e : ℕ) → is_member ys e ≡ true → is_member xs e ≡ true) → xs ≡ ys
same_list [] [] a b f h = refl
same_list [] (y ∷ ys) a b f h =
    absurd (false≢true (h y (or_left (eqb y y) (is_member ys y) (eq-eqb y y refl))))
same_list (x ∷ xs) [] a b f h =
    absurd (false≢true (f x (or_left (eqb x x) (is_member xs x) (eq-eqb x x refl))))
same_list (x ∷ xs) (y ∷ ys) a b f h =
    let x_in = f x (or_left (eqb x x) (is_member xs x) (eq-eqb x x refl)) in
    let y_in = h y (or_left (eqb y y) (is_member ys y) (eq-eqb y y refl)) in
    let same : x ≡ y = elim (or_cases (eqb y x) (is_member ys x) x_in) [
      | inl here ↦ sym (eqb-true y x here)
      | inr later ↦ elim (or_cases (eqb x y) (is_member xs y) y_in) [
        | inl here ↦ eqb-true x y here
        | inr behind ↦
            absurd (omega (arith, above_all y ys b x later, above_all x xs a y behind))
      ]
    ] in
    let rest = same_list xs ys (ascends_tail x xs a) (ascends_tail y ys b)
    (λ e i. elim (or_cases (eqb y e) (is_member ys e)
    (f e (or_right (eqb x e) (is_member xs e) i))) [
      | inl here ↦ absurd (omega (arith, above_all x xs a e i, same, eqb-true y e here))
      | inr there ↦ there
    ])
    (λ e i. elim (or_cases (eqb x e) (is_member xs e)
    (h e (or_right (eqb y e) (is_member ys e) i))) [
      | inl here ↦ absurd (omega (arith, above_all y ys b e i, same, eqb-true x e here))
      | inr there ↦ there
    ]) in
    ap (λ (z : ℕ). z ∷ xs) same ∙ ap (λ (zs : List ℕ). y ∷ zs) rest

-- roots of candidates that pass a test
module _ (test : NodeSet) (cs : List Candidate) (i : ℕ) (a : Candidate) (ys : List ℕ)
    (l : i < length cs) (is : a ≡ get_or cs i a) where
  there : i < length (roots_in cs)
  there = omega (arith, l, length-map cs (λ (c : Candidate). c.root))

  root_at : get_or (roots_in cs) i a.root ≡ a.root
  root_at =
      get_or-map (λ (c : Candidate). c.root) cs i a a.root l
      ∙ ap (λ (c : Candidate). c.root) (sym is)

  pub root_kept : test a.root ≡ true → ys ≡ filter test (take i (roots_in cs))
      → ys ++ a.root ∷ [] ≡ filter test (take (i + 1) (roots_in cs))
  root_kept t h =
      ap (λ (r : ℕ). ys ++ r ∷ []) (sym root_at)
      ∙ filter_more test (roots_in cs) i a.root ys there (ap test root_at ∙ t) h

  pub root_past : test a.root ≡ false → ys ≡ filter test (take i (roots_in cs))
      → ys ≡ filter test (take (i + 1) (roots_in cs))
  root_past t h = filter_past test (roots_in cs) i a.root ys there (ap test root_at ∙ t) h

pub all_roots : (cs : List Candidate) (i : ℕ) → length cs ≤ i
    → take i (roots_in cs) ≡ roots_in cs
all_roots cs i l =
    take_all i (roots_in cs) (omega (arith, l, length-map cs (λ (c : Candidate). c.root)))
