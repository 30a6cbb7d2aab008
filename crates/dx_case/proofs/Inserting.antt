-- Lists in order, with an item more.
use Rattle.std.proofs.Common.{◌≡◌, ◌+◌, ◌<◌, ◌≤◌, ◌&&◌, ◌||◌, ◌++◌, ℕ, zero, suc, Bool, true, false}
use Rattle.std.proofs.Common.{List, [], ◌∷◌, eqb, ltb, length, get_or, take}
use Rattle.std.proofs.Common.{drop, map, refl, sym, ap}
use Rattle.std.proofs.Common.{subst, ◌∙◌, inl, inr, arith, if◌then◌else◌}
use Rattle.std.specs.List.{list_any}
use Rattle.std.specs.List.Sorted.{IsPartitionedBy}
use Rattle.std.proofs.lemmas.Bool.{cases_Bool, cases_eq, cases_lt, and_parts, and_from, or_cases}
use Rattle.std.proofs.lemmas.Bool.{or_left, or_right, eq-eqb, ltb-true, lt-ltb, false≢true}
use Rattle.std.proofs.lemmas.Bool.{both_ways}
use Rattle.std.proofs.lemmas.Bool.{false_from_ne_true}
use Rattle.std.proofs.lemmas.List.{get_or_default, drop_all, append-nil, take_all}
use Rattle.ev_graph.proofs.CutLists.{link_trans}
use Rattle.dx_case.specs.Places.{IsInsertPlace}
use Rattle.ev_incidence.specs.Sets.{ascends, ascends_by, starts_above}
use Rattle.ev_graph.specs.Cutting.{is_before_link}
use Rattle.ev_graph.specs.declared.instances.Link.{Link}
use Rattle.ev_incidence.proofs.Ascending.{rises}
use Rattle.fm_entry.specs.declared.broken.Broken.{Broken}
use Rattle.fm_entry.specs.Words.{is_link_before}
use Rattle.dx_explain.specs.Cases.{inserted, broken_of, with_links}

if_true : {A : Type 0} (b : Bool) (x y : A) → b ≡ true → (if b then x else y) ≡ x
if_true true x y h = refl
if_true false x y h = absurd (false≢true h)

if_false : {A : Type 0} (b : Bool) (x y : A) → b ≡ false → (if b then x else y) ≡ y
if_false true x y h = absurd (false≢true (sym h))
if_false false x y h = refl

module _ {A : Type 0} (before : A → A → Bool) (x : A) where
  -- where x comes before the first item, behind it, or is in its place
  ins_first : (y : A) (ys : List A) → before x y ≡ true
      → inserted before x (y ∷ ys) ≡ x ∷ y ∷ ys
  ins_first y ys h = if_true (before x y) (x ∷ y ∷ ys)
      (if before y x then y ∷ inserted before x ys else y ∷ ys) h

  ins_later : (y : A) (ys : List A) → before x y ≡ false → before y x ≡ true
      → inserted before x (y ∷ ys) ≡ y ∷ inserted before x ys
  ins_later y ys h k = if_false (before x y) (x ∷ y ∷ ys)
      (if before y x then y ∷ inserted before x ys else y ∷ ys) h
      ∙ if_true (before y x) (y ∷ inserted before x ys) (y ∷ ys) k

  ins_there : (y : A) (ys : List A) → before x y ≡ false → before y x ≡ false
      → inserted before x (y ∷ ys) ≡ y ∷ ys
  ins_there y ys h k = if_false (before x y) (x ∷ y ∷ ys)
      (if before y x then y ∷ inserted before x ys else y ∷ ys) h
      ∙ if_false (before y x) (y ∷ inserted before x ys) (y ∷ ys) k

  -- x comes in at a place: the items before it are before x, and the one there is behind x
  pub inserted_new : (xs : List A) (at : ℕ) → at ≤ length xs
      → ((k : ℕ) (d : A) → k < at → before (get_or xs k d) x ≡ true)
      → ((k : ℕ) (d : A) → k < at → before x (get_or xs k d) ≡ false)
      → ((d : A) → at < length xs → before x (get_or xs at d) ≡ true)
      → inserted before x xs ≡ take at xs ++ x ∷ drop at xs
  inserted_new [] zero l low not_low high = refl
  inserted_new [] (suc at) l low not_low high = absurd (omega (arith, l))
  inserted_new (y ∷ ys) zero l low not_low high = ins_first y ys (high y (omega arith))
  inserted_new (y ∷ ys) (suc at) l low not_low high =
      ins_later y ys (not_low 0 y (omega arith)) (low 0 y (omega arith))
      ∙ ap (λ (zs : List A). y ∷ zs)
      (inserted_new ys at (omega (arith, l))
      (λ k d m. low (suc k) d (omega (arith, m)))
      (λ k d m. not_low (suc k) d (omega (arith, m)))
      (λ d m. high d (omega (arith, m))))

  -- x stands in the place of an item
  pub inserted_there : (xs : List A) (at : ℕ) → at < length xs
      → ((k : ℕ) (d : A) → k < at → before (get_or xs k d) x ≡ true)
      → ((k : ℕ) (d : A) → k < at → before x (get_or xs k d) ≡ false)
      → ((d : A) → before x (get_or xs at d) ≡ false)
      → ((d : A) → before (get_or xs at d) x ≡ false)
      → inserted before x xs ≡ xs
  inserted_there [] at l low not_low a b = absurd (omega (arith, l))
  inserted_there (y ∷ ys) zero l low not_low a b = ins_there y ys (a y) (b y)
  inserted_there (y ∷ ys) (suc at) l low not_low a b =
      ins_later y ys (not_low 0 y (omega arith)) (low 0 y (omega arith))
      ∙ ap (λ (zs : List A). y ∷ zs)
      (inserted_there ys at (omega (arith, l))
      (λ k d m. low (suc k) d (omega (arith, m)))
      (λ k d m. not_low (suc k) d (omega (arith, m))) a b)

  starts_inserted : (y : A) (ys : List A) → starts_above before y ys ≡ true → before y x ≡ true
      → starts_above before y (inserted before x ys) ≡ true
  starts_inserted y [] h k = k
  starts_inserted y (z ∷ zs) h k = elim (cases_Bool (before x z)) [
    | inl first ↦ ap (starts_above before y) (ins_first z zs first) ∙ k
    | inr not_first ↦ elim (cases_Bool (before z x)) [
      | inl later ↦ ap (starts_above before y) (ins_later z zs not_first later) ∙ h
      | inr there ↦ ap (starts_above before y) (ins_there z zs not_first there) ∙ h
    ]
  ]

  pub ascends_inserted : (xs : List A) → ascends_by before xs ≡ true
      → ascends_by before (inserted before x xs) ≡ true
  ascends_inserted [] h = refl
  ascends_inserted (y ∷ ys) h =
      let p = and_parts (starts_above before y ys) (ascends_by before ys) h in
      elim (cases_Bool (before x y)) [
        | inl first ↦ ap (ascends_by before) (ins_first y ys first)
            ∙ and_from (before x y) (ascends_by before (y ∷ ys)) first h
        | inr not_first ↦ elim (cases_Bool (before y x)) [
          | inl later ↦ ap (ascends_by before) (ins_later y ys not_first later)
              ∙ and_from (starts_above before y (inserted before x ys))
              (ascends_by before (inserted before x ys)) (starts_inserted y ys p.0 later)
              (ascends_inserted ys p.1)
          | inr there ↦ ap (ascends_by before) (ins_there y ys not_first there) ∙ h
        ]
      ]

  -- what passes a test afterwards
  pub any_inserted : (p : A → Bool)
      → ((y : A) → before x y ≡ false → before y x ≡ false → p x ≡ p y) → (xs : List A)
      → list_any p (inserted before x xs) ≡ (p x || list_any p xs)
  any_inserted p same [] = refl
  any_inserted p same (y ∷ ys) = elim (cases_Bool (before x y)) [
    | inl first ↦ ap (list_any p) (ins_first y ys first)
    | inr not_first ↦ elim (cases_Bool (before y x)) [
      | inl later ↦ ap (list_any p) (ins_later y ys not_first later)
          ∙ (ap (λ (b : Bool). p y || b) (any_inserted p same ys)
          ∙ swap (p y) (p x) (list_any p ys))
      | inr there ↦ ap (list_any p) (ins_there y ys not_first there)
          ∙ once (p x) (p y) (list_any p ys) (same y not_first there)
    ]
  ] where
    swap : (a b c : Bool) → (a || (b || c)) ≡ (b || (a || c))
    swap true true c = refl
    swap true false c = refl
    swap false true c = refl
    swap false false c = refl

    once : (a b c : Bool) → a ≡ b → (b || c) ≡ (a || (b || c))
    once true b c e = ap (λ (d : Bool). d || c) (sym e)
    once false b c e = refl

-- links and what they are broken by
pub map_inserted : (l : Link) (ls : List Link)
    → map broken_of (inserted is_before_link l ls)
    ≡ inserted is_link_before (broken_of l) (map broken_of ls)
map_inserted l [] = refl
map_inserted l (k ∷ ks) = elim (cases_Bool (is_before_link l k)) [
  | inl first ↦ ap (map broken_of) (ins_first is_before_link l k ks first)
      ∙ sym (ins_first is_link_before (broken_of l) (broken_of k) (map broken_of ks) first)
  | inr not_first ↦ elim (cases_Bool (is_before_link k l)) [
    | inl later ↦ ap (map broken_of) (ins_later is_before_link l k ks not_first later)
        ∙ (ap (λ (bs : List Broken). broken_of k ∷ bs) (map_inserted l ks)
        ∙ sym (ins_later is_link_before (broken_of l) (broken_of k) (map broken_of ks) not_first
        later))
    | inr there ↦ ap (map broken_of) (ins_there is_before_link l k ks not_first there)
        ∙ sym (ins_there is_link_before (broken_of l) (broken_of k) (map broken_of ks) not_first
        there)
  ]
]

-- more links are put in one after the other
with_next : (links : List Link) (i n : ℕ) (d : Link) (bs : List Broken) → i < length links
    → n ≡ suc i → with_links (take n links) bs
    ≡ inserted is_link_before (broken_of (get_or links i d)) (with_links (take i links) bs)
with_next [] i n d bs l e = absurd (omega (arith, l))
with_next (k ∷ ks) i zero d bs l e = absurd (omega (arith, e))
with_next (k ∷ ks) zero (suc n) d bs l e =
    let none : n ≡ 0 = omega (arith, e) in
    ap (λ (m : ℕ). with_links (take m ks) (inserted is_link_before (broken_of k) bs)) none
with_next (k ∷ ks) (suc i) (suc n) d bs l e =
    with_next ks i n d (inserted is_link_before (broken_of k) bs) (omega (arith, l))
    (omega (arith, e))

pub with_more : (links : List Link) (i : ℕ) (d : Link) (bs : List Broken) → i < length links
    → with_links (take (i + 1) links) bs
    ≡ inserted is_link_before (broken_of (get_or links i d)) (with_links (take i links) bs)
with_more links i d bs l = with_next links i (i + 1) d bs l (omega arith)

-- two links of which neither is before the other are one
pub same_place : (a b : Broken) → is_link_before a b ≡ false → is_link_before b a ≡ false
    → (a.instance ≡ b.instance) × (a.effect ≡ b.effect)
same_place a b h k =
    let none : (x y : Broken) → is_link_before x y ≡ false → (x.instance < y.instance) → ⊥ =
    λ x y f l. both_ways (is_link_before x y) f (or_left (ltb x.instance y.instance)
    (eqb x.instance y.instance && ltb x.effect y.effect) (lt-ltb x.instance y.instance l)) in
    let e : a.instance ≡ b.instance = elim (cases_lt a.instance b.instance) [
      | inl l ↦ absurd (none a b h l)
      | inr ge ↦ elim (cases_lt b.instance a.instance) [
        | inl l ↦ absurd (none b a k l)
        | inr le ↦ omega (arith, ge, le)
      ]
    ] in
    let less : (x y : Broken) → x.instance ≡ y.instance → is_link_before x y ≡ false
    → (x.effect < y.effect) → ⊥ = λ x y s f l. both_ways (is_link_before x y) f
    (or_right (ltb x.instance y.instance) (eqb x.instance y.instance && ltb x.effect y.effect)
    (and_from (eqb x.instance y.instance) (ltb x.effect y.effect)
    (eq-eqb x.instance y.instance s) (lt-ltb x.effect y.effect l))) in (
      e,
      elim (cases_lt a.effect b.effect) [
        | inl l ↦ absurd (less a b e h l)
        | inr ge ↦ elim (cases_lt b.effect a.effect) [
          | inl l ↦ absurd (less b a (sym e) k l)
          | inr le ↦ omega (arith, ge, le)
        ]
      ],
    )

pub same_number : (a b : ℕ) → ltb a b ≡ false → ltb b a ≡ false → a ≡ b
same_number a b h k = elim (cases_lt a b) [
  | inl l ↦ absurd (both_ways (ltb a b) h (lt-ltb a b l))
  | inr ge ↦ elim (cases_lt b a) [
    | inl l ↦ absurd (both_ways (ltb b a) k (lt-ltb b a l))
    | inr le ↦ omega (arith, ge, le)
  ]
]

-- numbers below one come first
pub parted_numbers : (xs : List ℕ) (x : ℕ) → ascends xs ≡ true → IsPartitionedBy (λ y. ltb y x) xs
parted_numbers xs x up i j d le l h = elim (cases_eq i j) [
  | inl same ↦ let P : ℕ → Type 0 = λ k. ltb (get_or xs k d) x ≡ true in subst P (sym same) h
  | inr ne ↦ lt-ltb (get_or xs i d) x (omega (
    arith,
    rises_any xs i j d up (omega (arith, le, ne)) l,
    ltb-true (get_or xs j d) x h,
  ))
] where
  rises_any : (xs : List ℕ) (i j d : ℕ) → ascends xs ≡ true → i < j → j < length xs
      → get_or xs i d < get_or xs j d
  rises_any xs i j d up m l =
      let a : get_or xs i d ≡ get_or xs i 0 = get_or_default xs i d 0 (omega (arith, m, l)) in
      let b : get_or xs j d ≡ get_or xs j 0 = get_or_default xs j d 0 l in
      omega (arith, rises xs i j up m l, a, b)

-- at its place
ltb_self : (x : ℕ) → ltb x x ≡ false
ltb_self x = false_from_ne_true (ltb x x) (λ h. absurd (omega (arith, ltb-true x x h)))

asym : (a b : ℕ) → ltb a b ≡ true → ltb b a ≡ false
asym a b h = false_from_ne_true (ltb b a) (λ k.
    absurd (omega (arith, ltb-true a b h, ltb-true b a k)))

module _ (x : ℕ) (xs : List ℕ) (at : ℕ) (place : IsInsertPlace ltb x xs at) where
  pub number_there : (y : ℕ) → at < length xs → y ≡ get_or xs at y → y ≡ x
      → inserted ltb x xs ≡ xs
  number_there y l is same =
      let here : (d : ℕ) → get_or xs at d ≡ x = λ d. get_or_default xs at d y l ∙ (sym is ∙ same) in
      inserted_there ltb x xs at l place.low (λ k d m. asym (get_or xs k d) x (place.low k d m))
      (λ d. ap (ltb x) (here d) ∙ ltb_self x)
      (λ d. ap (λ (z : ℕ). ltb z x) (here d) ∙ ltb_self x)

  pub number_new : (at < length xs → (d : ℕ) → get_or xs at d ≡ x → ⊥)
      → inserted ltb x xs ≡ take at xs ++ x ∷ drop at xs
  number_new other =
      inserted_new ltb x xs at place.inside place.low
      (λ k d m. asym (get_or xs k d) x (place.low k d m))
      (λ d l. elim (cases_lt x (get_or xs at d)) [
        | inl less ↦ lt-ltb x (get_or xs at d) less
        | inr ge ↦ elim (cases_eq (get_or xs at d) x) [
          | inl same ↦ absurd (other l d same)
          | inr ne ↦ absurd (both_ways (ltb (get_or xs at d) x) (place.high at d (omega arith) l)
              (lt-ltb (get_or xs at d) x (omega (arith, ge, ne))))
        ]
      ])

links_asym : (a b : Link) → is_before_link a b ≡ true → is_before_link b a ≡ false
links_asym a b h = false_from_ne_true (is_before_link b a) (λ k.
    no_self a (link_trans a b a h k)) where
      no_self : (a : Link) → is_before_link a a ≡ true → ⊥
      no_self a h =
          let rest = eqb a.instance a.instance && ltb a.effect a.effect in
          elim (or_cases (ltb a.instance a.instance) rest h) [
            | inl l ↦ both_ways (ltb a.instance a.instance) (ltb_self a.instance) l
            | inr t ↦ both_ways (ltb a.effect a.effect) (ltb_self a.effect)
                (and_parts (eqb a.instance a.instance) (ltb a.effect a.effect) t).1
          ]

module _ (x : Link) (xs : List Link) (at : ℕ) (place : IsInsertPlace is_before_link x xs at) where
  pub link_there : (y : Link) → at < length xs → y ≡ get_or xs at y
      → is_before_link x y ≡ false → inserted is_before_link x xs ≡ xs
  link_there y l is stays =
      let here : (d : Link) → get_or xs at d ≡ y = λ d. get_or_default xs at d y l ∙ sym is in
      inserted_there is_before_link x xs at l place.low
      (λ k d m. links_asym (get_or xs k d) x (place.low k d m))
      (λ d. ap (is_before_link x) (here d) ∙ stays) (λ d. place.high at d (omega arith) l)

  pub link_new : (at < length xs → (d : Link) → is_before_link x (get_or xs at d) ≡ true)
      → inserted is_before_link x xs ≡ take at xs ++ x ∷ drop at xs
  link_new behind =
      inserted_new is_before_link x xs at place.inside place.low
      (λ k d m. links_asym (get_or xs k d) x (place.low k d m)) (λ d l. behind l d)

  pub link_behind : (y : Link) → at < length xs → y ≡ get_or xs at y
      → is_before_link x y ≡ true → (d : Link) → is_before_link x (get_or xs at d) ≡ true
  link_behind y l is later d =
      ap (is_before_link x) (get_or_default xs at d y l ∙ sym is) ∙ later

-- how long a list is that is another one
pub same_count : {A : Type 0} (n : ℕ) (xs ys : List A) → xs ≡ ys → length xs ≡ n → n ≡ length ys
same_count n xs ys e l = sym l ∙ ap length e

-- a list that was written back through a slice
pub write_back : {A : Type 0} (n : ℕ) (new old : List A) → length new ≡ length old
    → n ≡ length old → take n (new ++ drop (length new) old) ≡ new
write_back n new old e l =
    ap (λ ys. take n (new ++ ys)) (drop_all (length new) old (omega (arith, e)))
    ∙ (ap (take n) (append-nil new) ∙ take_all n new (omega (arith, e, l)))
