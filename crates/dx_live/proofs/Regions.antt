-- The greatest fit set of a part is that of the graph.
use Rattle.std.proofs.Common.{◌≡◌, ◌≢◌, ◌<◌, ◌&&◌, not, ℕ, zero, suc, Bool}
use Rattle.std.proofs.Common.{true, false}
use Rattle.std.proofs.Common.{cond, eqb, ltb, leb, List, [], ◌∷◌, length, map, get_or, refl, sym}
use Rattle.std.proofs.Common.{ap, subst}
use Rattle.std.proofs.Common.{◌∙◌, arith, inl, inr}
use Rattle.std.specs.List.{count_by, filter}
use Rattle.std.proofs.lemmas.List.Sums.{sum_by-cons}
use Rattle.std.proofs.lemmas.Bool.{cases_lt, cases_eq, cases_Bool, and_parts, and_from, or_cases}
use Rattle.std.proofs.lemmas.Bool.{or_left}
use Rattle.std.proofs.lemmas.Bool.{or_right, eqb-true, eq-eqb, ne_eqb, ltb-true, lt-ltb, leb-true}
use Rattle.std.proofs.lemmas.Bool.{le-leb}
use Rattle.std.proofs.lemmas.Bool.{cond-true, cond-false, false≢true, both_ways, not-true}
use Rattle.std.proofs.lemmas.Bool.{not_from_false}
use Rattle.ev_incidence.specs.Sets.{NodeSet, is_member, IsSubset, ascends}
use Rattle.ev_incidence.specs.Wiring.{Wiring}
use Rattle.ev_incidence.specs.Table.{row_at}
use Rattle.ev_graph.specs.Cutting.{without}
use Rattle.ev_incidence.proofs.Ascending.{rises}
use Rattle.ev_incidence.proofs.Occurrences.{in_at, place_in, in_filter, filter_in, filter_yes}
use Rattle.ev_incidence.proofs.Occurrences.{filter_no}
use Rattle.ev_incidence.proofs.Occurrences.{row_in_range}
use Rattle.dx_sets.specs.Fit.{IsFit}
use Rattle.dx_sets.specs.Engine.{CutsOf, uncut, wiring_cut}
use Rattle.dx_live.specs.Region.{RegionValue, IsRegionOf, local, lifted}
use Rattle.dx_live.specs.Region.{AreLocalCuts, AreCounted, AreRising}
use Rattle.dx_sets.proofs.Losing.{uncut_in_range}

-- lists under a function
in_map : (f : ℕ → ℕ) (xs : List ℕ) (x : ℕ) → is_member xs x ≡ true
    → is_member (map f xs) (f x) ≡ true
in_map f [] x h = absurd (false≢true h)
in_map f (y ∷ ys) x h = elim (or_cases (eqb y x) (is_member ys x) h) [
  | inl here ↦ or_left (eqb (f y) (f x)) (is_member (map f ys) (f x))
      (eq-eqb (f y) (f x) (ap f (eqb-true y x here)))
  | inr more ↦ or_right (eqb (f y) (f x)) (is_member (map f ys) (f x)) (in_map f ys x more)
]

map_in : (f : ℕ → ℕ) (xs : List ℕ) (y : ℕ) → is_member (map f xs) y ≡ true
    → (x : ℕ) × (is_member xs x ≡ true) × (f x ≡ y)
map_in f [] y h = absurd (false≢true h)
map_in f (x ∷ xs) y h = elim (or_cases (eqb (f x) y) (is_member (map f xs) y) h) [
  | inl here ↦ (x, or_left (eqb x x) (is_member xs x) (eq-eqb x x refl), eqb-true (f x) y here)
  | inr more ↦ let p = map_in f xs y more in (p.0, or_right (eqb x p.0) (is_member xs p.0) p.1, p.2)
]

-- tests that agree on the members count the same, and keep the same
count_map : (f : ℕ → ℕ) (X Y : NodeSet) (xs : List ℕ)
    → ((x : ℕ) → is_member xs x ≡ true → X x ≡ Y (f x))
    → count_by X xs ≡ count_by Y (map f xs)
count_map f X Y [] h = refl
count_map f X Y (x ∷ xs) h =
    let here : X x ≡ Y (f x) = h x (or_left (eqb x x) (is_member xs x) (eq-eqb x x refl)) in
    omega (
      arith,
      sum_by-cons (λ y. cond (X y) 1 0) x xs,
      sum_by-cons (λ y. cond (Y y) 1 0) (f x) (map f xs),
      ap {B = ℕ} (λ (b : Bool). cond b 1 0) here,
      count_map f X Y xs (λ y i. h y (or_right (eqb x y) (is_member xs y) i)),
    )

filter_map_same : (f : ℕ → ℕ) (p q : ℕ → Bool) (xs : List ℕ)
    → ((x : ℕ) → is_member xs x ≡ true → p x ≡ q (f x))
    → map f (filter p xs) ≡ filter q (map f xs)
filter_map_same f p q [] h = refl
filter_map_same f p q (x ∷ xs) h =
    let here : p x ≡ q (f x) = h x (or_left (eqb x x) (is_member xs x) (eq-eqb x x refl)) in
    let rest = filter_map_same f p q xs (λ y i. h y (or_right (eqb x y) (is_member xs y) i)) in
    elim (cases_Bool (p x)) [
      | inl pass ↦ ap (λ (ys : List ℕ). map f ys) (filter_yes p x xs pass)
          ∙ (ap (λ (ys : List ℕ). f x ∷ ys) rest
          ∙ sym (filter_yes q (f x) (map f xs) (sym here ∙ pass)))
      | inr fail ↦ ap (λ (ys : List ℕ). map f ys) (filter_no p x xs fail)
          ∙ (rest ∙ sym (filter_no q (f x) (map f xs) (sym here ∙ fail)))
    ]

pub filter_all : (p : ℕ → Bool) (xs : List ℕ) → ((x : ℕ) → is_member xs x ≡ true → p x ≡ true)
    → filter p xs ≡ xs
filter_all p [] h = refl
filter_all p (x ∷ xs) h =
    filter_yes p x xs (h x (or_left (eqb x x) (is_member xs x) (eq-eqb x x refl)))
    ∙ ap (λ (ys : List ℕ). x ∷ ys)
    (filter_all p xs (λ y i. h y (or_right (eqb x y) (is_member xs y) i)))

count_kept : (X R : NodeSet) (xs : List ℕ) → IsSubset X R → count_by X (filter R xs) ≡ count_by X xs
count_kept X R [] h = refl
count_kept X R (x ∷ xs) h =
    let all = sum_by-cons (λ y. cond (X y) 1 0) x xs in
    elim (cases_Bool (R x)) [
      | inl pass ↦ omega (
        arith,
        all,
        ap (λ (ys : List ℕ). count_by X ys) (filter_yes R x xs pass),
        sum_by-cons (λ y. cond (X y) 1 0) x (filter R xs),
        count_kept X R xs h,
      )
      | inr fail ↦ omega (
        arith,
        all,
        ap (λ (ys : List ℕ). count_by X ys) (filter_no R x xs fail),
        count_kept X R xs h,
        cond-false {A = ℕ} (X x) 1 0 (away x fail),
      )
    ] where
      away : (y : ℕ) → R y ≡ false → X y ≡ false
      away y f = elim (cases_Bool (X y)) [ inl t ↦ absurd (both_ways (R y) f (h y t)) | inr n ↦ n ]

pub some_counted : (X : NodeSet) (xs : List ℕ) → 0 < count_by X xs
    → (x : ℕ) × (is_member xs x ≡ true)
    × (X x ≡ true)
some_counted X [] h = absurd (omega (arith, h))
some_counted X (x ∷ xs) h = elim (cases_Bool (X x)) [
  | inl here ↦ (x, or_left (eqb x x) (is_member xs x) (eq-eqb x x refl), here)
  | inr away ↦
      let p = some_counted X xs (omega (
        arith,
        h,
        sum_by-cons (λ y. cond (X y) 1 0) x xs,
        cond-false {A = ℕ} (X x) 1 0 away,
      )) in
      (p.0, or_right (eqb x p.0) (is_member xs p.0) p.1, p.2)
]

-- ascending nodes have one local number each
pub one_number : (nodes : List ℕ) (a b : ℕ) → ascends nodes ≡ true → a < length nodes
    → b < length nodes
    → get_or nodes a 0 ≡ get_or nodes b 0 → a ≡ b
one_number nodes a b up a_in b_in e = elim (cases_lt a b) [
  | inl lt ↦ absurd (omega (arith, rises nodes a b up lt b_in, e))
  | inr ge ↦ elim (cases_lt b a) [
    | inl gt ↦ absurd (omega (arith, rises nodes b a up gt a_in, e))
    | inr le ↦ omega (arith, ge, le)
  ]
]

-- a set of local numbers by nodes
pub lifted_in : (nodes : List ℕ) (Z : NodeSet) (e : ℕ) → lifted nodes Z e ≡ true
    → (l : ℕ) × (l < length nodes) × (get_or nodes l 0 ≡ e) × (Z l ≡ true)
lifted_in [] Z e h = absurd (false≢true h)
lifted_in (x ∷ xs) Z e h = elim (cases_Bool (eqb x e)) [
  | inl here ↦ (
    0,
    omega arith,
    eqb-true x e here,
    sym (cond-true {A = Bool} (eqb x e) (Z 0) (lifted xs (λ l. Z (suc l)) e) here) ∙ h,
  )
  | inr away ↦
      let p = lifted_in xs (λ l. Z (suc l)) e
      (sym (cond-false {A = Bool} (eqb x e) (Z 0) (lifted xs (λ l. Z (suc l)) e) away) ∙ h) in
      (suc p.0, omega (arith, p.1), p.2, p.3)
]

-- where the node stands at l and nowhere before
lifted_first : (nodes : List ℕ) (Z : NodeSet) (l : ℕ) → l < length nodes
    → ((i : ℕ) → i < l → get_or nodes i 0 ≢ get_or nodes l 0)
    → lifted nodes Z (get_or nodes l 0) ≡ Z l
lifted_first [] Z l low h = absurd (omega (arith, low))
lifted_first (x ∷ xs) Z zero low h =
    cond-true {A = Bool} (eqb x x) (Z 0) (lifted xs (λ l. Z (suc l)) x) (eq-eqb x x refl)
lifted_first (x ∷ xs) Z (suc l) low h =
    cond-false {A = Bool} (eqb x (get_or xs l 0)) (Z 0) (lifted xs (λ l. Z (suc l)) (get_or xs l 0))
    (ne_eqb x (get_or xs l 0) (h 0 (omega arith)))
    ∙ lifted_first xs (λ i. Z (suc i)) l (omega (arith, low))
    (λ i lt e. h (suc i) (omega (arith, lt)) e)

pub lifted_at : (nodes : List ℕ) (Z : NodeSet) (l : ℕ) → ascends nodes ≡ true → l < length nodes
    → lifted nodes Z (get_or nodes l 0) ≡ Z l
lifted_at nodes Z l up low =
    lifted_first nodes Z l low (λ i lt e. absurd (omega (arith, rises nodes i l up lt low, e)))

pub lifted_nodes : (nodes : List ℕ) (Z : NodeSet) → IsSubset (lifted nodes Z) (is_member nodes)
lifted_nodes nodes Z e h =
    let p = lifted_in nodes Z e h in
    let P : ℕ → Type 0 = λ x. is_member nodes x ≡ true in
    subst P p.2 (in_at nodes p.0 p.1)

module _ (w : Wiring) (root here : ℕ) (p : RegionValue) (cut local_cut : CutsOf)
    (h : IsRegionOf w root p) (cuts : AreLocalCuts p cut local_cut)
    (here_in : here < length p.nodes)
    (here_is : get_or p.nodes here 0 ≡ root) where
  abbrev node : ℕ → ℕ
  node l = get_or p.nodes l 0

  abbrev gw : Wiring
  gw = without w cut

  abbrev pw : Wiring
  pw = wiring_cut p.table local_cut

  abbrev left_of : ℕ → List ℕ
  left_of j = filter (λ e. not (cut j e)) (w.effects j)

  -- the effects of an instance of the part
  effects_named : (t : ℕ) → t < length p.places
      → map node (uncut p.table local_cut t) ≡ left_of (get_or p.places t 0)
  effects_named t t_in =
      let j = get_or p.places t 0 in
      let r = h.effects t t_in in
      filter_map_same node (λ l. not (local_cut t l)) (λ e. not (cut j e))
      (row_at p.table.effects t)
      (λ l i. ap not (cuts.each t l t_in i))
      ∙ ap (λ (es : List ℕ). filter (λ e. not (cut j e)) es)
      (r.named ∙ filter_all (is_member p.nodes) (w.effects j)
      (λ e i. h.into j e (in_at p.places t t_in) i))

  effects_below : (t l : ℕ) → t < length p.places → is_member (uncut p.table local_cut t) l ≡ true
      → l < length p.nodes
  effects_below t l t_in i =
      (h.effects t t_in).below l
      (filter_in (λ x. not (local_cut t x)) l (row_at p.table.effects t) i).1

  causes_below : (t l : ℕ) → t < length p.places → is_member (row_at p.table.causes t) l ≡ true
      → l < length p.nodes
  causes_below t l t_in i = (h.causes t t_in).below l i

  -- a local number among those of a list of local numbers, from its node
  named_in : (ls : List ℕ) (l : ℕ) → l < length p.nodes
      → ((x : ℕ) → is_member ls x ≡ true → x < length p.nodes)
      → is_member (map node ls) (node l) ≡ true → is_member ls l ≡ true
  named_in ls l l_in below i =
      let q = map_in node ls (node l) i in
      let P : ℕ → Type 0 = λ x. is_member ls x ≡ true in
      subst P (one_number p.nodes q.0 l h.nodes_ascend (below q.0 q.1) l_in q.2) q.1

  -- counts
  count_causes : (X : NodeSet) (Z : NodeSet) (t : ℕ) → t < length p.places
      → IsSubset X (is_member p.nodes)
      → ((l : ℕ) → l < length p.nodes → Z l ≡ X (node l))
      → count_by Z (row_at p.table.causes t) ≡ count_by X (w.causes (get_or p.places t 0))
  count_causes X Z t t_in within same =
      count_map node Z X (row_at p.table.causes t) (λ l i. same l (causes_below t l t_in i))
      ∙ (ap (λ (es : List ℕ). count_by X es) (h.causes t t_in).named
      ∙ count_kept X (is_member p.nodes) (w.causes (get_or p.places t 0)) within)

  count_effects : (X : NodeSet) (Z : NodeSet) (t : ℕ) → t < length p.places
      → ((l : ℕ) → l < length p.nodes → Z l ≡ X (node l))
      → count_by Z (uncut p.table local_cut t) ≡ count_by X (left_of (get_or p.places t 0))
  count_effects X Z t t_in same =
      count_map node Z X (uncut p.table local_cut t) (λ l i. same l (effects_below t l t_in i))
      ∙ ap (λ (es : List ℕ). count_by X es) (effects_named t t_in)

  place_below : (t l : ℕ) → is_member (uncut p.table local_cut t) l ≡ true → t < length p.places
  place_below t l i = omega (
    arith,
    uncut_in_range p.table local_cut t l h.incidence i,
    h.place_count,
  )

  -- the instances of a node, by place
  place_of_use : (j e : ℕ) → is_member p.nodes e ≡ true → is_member (w.causes j) e ≡ true
      → (t : ℕ) × (t < length p.places) × (get_or p.places t 0 ≡ j)
  place_of_use j e e_in i =
      place_in j p.places (h.out e j e_in i)

  pub to_global : (Z : NodeSet) → IsFit pw here Z → IsFit gw root (lifted p.nodes Z)
  to_global Z f = record {
    caused = λ e i ne.
        let q = lifted_in p.nodes Z e i in
        let l = q.0 in
        let c = f.caused l q.3 (λ same. ne (sym q.2 ∙ (ap node same ∙ here_is))) in
        let t = c.place in
        let a = and_parts (is_member (uncut p.table local_cut t) l)
        (leb (get_or p.table.k t 0) (count_by Z (row_at p.table.causes t))) c.enough in
        let t_in = place_below t l a.0 in
        let j = get_or p.places t 0 in
        record {
          place = j;
          enough = and_from (is_member (left_of j) e)
              (leb (w.k j) (count_by (lifted p.nodes Z) (w.causes j)))
              (ap (λ (x : ℕ). is_member (left_of j) x) (sym q.2)
              ∙ (ap (λ (es : List ℕ). is_member es (node l)) (sym (effects_named t t_in))
              ∙ in_map node (uncut p.table local_cut t) l a.0))
              (le-leb (w.k j) (count_by (lifted p.nodes Z) (w.causes j))
              (omega (
                arith,
                leb-true (get_or p.table.k t 0) (count_by Z (row_at p.table.causes t))
                    a.1,
                h.k t t_in,
                count_causes (lifted p.nodes Z) Z t t_in (lifted_nodes p.nodes Z)
                    (λ x x_in. sym (lifted_at p.nodes Z x h.nodes_ascend x_in)),
              )));
        };
    shown = λ e i. record {
      each = λ j. elim (cases_Bool (is_member (w.causes j) e)) [
        | inr other ↦ or_left (not (is_member (w.causes j) e))
            (leb (w.n j) (count_by (lifted p.nodes Z) (left_of j)))
            (not_from_false (is_member (w.causes j) e) other)
        | inl cause ↦ or_right (not (is_member (w.causes j) e))
            (leb (w.n j) (count_by (lifted p.nodes Z) (left_of j)))
            (shown_at Z f e j i cause)
      ];
    };
  } where
    shown_at : (Z2 : NodeSet) → IsFit pw here Z2 → (e j : ℕ) → lifted p.nodes Z2 e ≡ true
        → is_member (w.causes j) e ≡ true
        → leb (w.n j) (count_by (lifted p.nodes Z2) (left_of j)) ≡ true
    shown_at Z2 f2 e j i cause =
        let q = lifted_in p.nodes Z2 e i in
        let l = q.0 in
        let e_in = lifted_nodes p.nodes Z2 e i in
        let u = place_of_use j e e_in cause in
        let t = u.0 in
        let P : ℕ → Type 0 = λ x.
        leb (w.n x) (count_by (lifted p.nodes Z2) (left_of x)) ≡ true in
        let there : is_member (map node (row_at p.table.causes t)) (node l) ≡ true =
        ap (λ (es : List ℕ). is_member es (node l)) (h.causes t u.1).named
        ∙ (ap (λ (x : ℕ). is_member
        (filter (is_member p.nodes) (w.causes (get_or p.places t 0))) x) q.2
        ∙ in_filter (is_member p.nodes) e (w.causes (get_or p.places t 0)) e_in
        (ap (λ (x : ℕ). is_member (w.causes x) e) u.2 ∙ cause)) in
        let l_cause = named_in (row_at p.table.causes t) l q.1 (λ x x_in. causes_below t x u.1 x_in)
        there in
        let met = (f2.shown l q.3).each t in
        elim (or_cases (not (is_member (row_at p.table.causes t) l))
        (leb (get_or p.table.n t 0) (count_by Z2 (uncut p.table local_cut t))) met) [
          | inl none ↦ absurd (both_ways (is_member (row_at p.table.causes t) l)
              (not-true (is_member (row_at p.table.causes t) l) none) l_cause)
          | inr enough ↦ subst P u.2
              (le-leb (w.n (get_or p.places t 0))
              (count_by (lifted p.nodes Z2) (left_of (get_or p.places t 0)))
              (omega (
                arith,
                leb-true (get_or p.table.n t 0)
                    (count_by Z2 (uncut p.table local_cut t)) enough,
                h.n t u.1,
                count_effects (lifted p.nodes Z2) Z2 t u.1
                    (λ x x_in. sym (lifted_at p.nodes Z2 x h.nodes_ascend x_in)),
              )))
        ]

  local_at : (X : NodeSet) (l : ℕ) → l < length p.nodes → local p.nodes X l ≡ X (node l)
  local_at X l l_in = elim (cases_Bool (X (node l))) [
    | inl t ↦ and_from (ltb l (length p.nodes)) (X (node l)) (lt-ltb l (length p.nodes) l_in) t
        ∙ sym t
    | inr f ↦ ap (λ (b : Bool). b && X (node l)) (lt-ltb l (length p.nodes) l_in)
  ]

  pub to_local : (Y : NodeSet) → IsSubset Y (is_member p.nodes)
      → AreCounted w → IsFit gw root Y → IsFit pw here (local p.nodes Y)
  to_local Y within counted f = record {
    caused = λ l i ne.
        let a = and_parts (ltb l (length p.nodes)) (Y (node l)) i in
        let l_in = ltb-true l (length p.nodes) a.0 in
        let c = f.caused (node l) a.1
        (λ same. ne (one_number p.nodes l here h.nodes_ascend l_in here_in (same ∙ sym here_is)))
        in
        let j = c.place in
        let b = and_parts (is_member (left_of j) (node l))
        (leb (w.k j) (count_by Y (w.causes j))) c.enough in
        let effect = (filter_in (λ y. not (cut j y)) (node l) (w.effects j) b.0).1 in
        let x = some_counted Y (w.causes j)
        (omega (
          arith,
          counted.each j (node l) effect,
          leb-true (w.k j) (count_by Y (w.causes j)) b.1,
        )) in
        let u = place_of_use j x.0 (within x.0 x.2) x.1 in
        let t = u.0 in
        record {
          place = t;
          enough = and_from (is_member (uncut p.table local_cut t) l)
              (leb (get_or p.table.k t 0) (count_by (local p.nodes Y) (row_at p.table.causes t)))
              (named_in (uncut p.table local_cut t) l l_in (λ y y_in. effects_below t y u.1 y_in)
              (ap (λ (es : List ℕ). is_member es (node l)) (effects_named t u.1)
              ∙ (ap (λ (y : ℕ). is_member (left_of y) (node l)) u.2 ∙ b.0)))
              (le-leb (get_or p.table.k t 0) (count_by (local p.nodes Y) (row_at p.table.causes t))
              (omega (
                arith,
                leb-true (w.k j) (count_by Y (w.causes j)) b.1,
                h.k t u.1,
                ap (λ (y : ℕ). w.k y) u.2,
                ap (λ (y : ℕ). count_by Y (w.causes y)) u.2,
                count_causes Y (local p.nodes Y) t u.1 within (λ y y_in. local_at Y y y_in),
              )));
        };
    shown = λ l i. record {
      each = λ t. elim (cases_Bool (is_member (row_at p.table.causes t) l)) [
        | inr other ↦ or_left (not (is_member (row_at p.table.causes t) l))
            (leb (get_or p.table.n t 0) (count_by (local p.nodes Y) (uncut p.table local_cut t)))
            (not_from_false (is_member (row_at p.table.causes t) l) other)
        | inl cause ↦
            let a = and_parts (ltb l (length p.nodes)) (Y (node l)) i in
            let t_in : t < length p.places =
            omega (arith, row_in_range p.table.causes t l cause, h.place_count) in
            let j = get_or p.places t 0 in
            let in_row : is_member (filter (is_member p.nodes) (w.causes j)) (node l) ≡ true =
            ap (λ (es : List ℕ). is_member es (node l)) (sym (h.causes t t_in).named)
            ∙ in_map node (row_at p.table.causes t) l cause in
            let j_cause = (filter_in (is_member p.nodes) (node l) (w.causes j) in_row).1 in
            or_right (not (is_member (row_at p.table.causes t) l))
            (leb (get_or p.table.n t 0) (count_by (local p.nodes Y) (uncut p.table local_cut t)))
            (elim (or_cases (not (is_member (w.causes j) (node l)))
            (leb (w.n j) (count_by Y (left_of j))) ((f.shown (node l) a.1).each j)) [
              | inl none ↦ absurd (both_ways (is_member (w.causes j) (node l))
                  (not-true (is_member (w.causes j) (node l)) none) j_cause)
              | inr enough ↦ le-leb (get_or p.table.n t 0)
                  (count_by (local p.nodes Y) (uncut p.table local_cut t))
                  (omega (
                    arith,
                    leb-true (w.n j) (count_by Y (left_of j)) enough,
                    h.n t t_in,
                    count_effects Y (local p.nodes Y) t t_in (λ y y_in. local_at Y y y_in),
                  ))
            ])
      ];
    };
  }

  -- what is fit in the graph stands in the part: each member but the root has a cause of lower rank
  -- in the set
  fit_nodes : (rank : ℕ → ℕ) → AreRising w rank → AreCounted w → (Y : NodeSet) → IsFit gw root Y
      → (fuel e : ℕ) → rank e < fuel → Y e ≡ true → is_member p.nodes e ≡ true
  fit_nodes rank up counted Y f zero e low here_e = absurd (omega (arith, low))
  fit_nodes rank up counted Y f (suc fuel) e low here_e = elim (cases_eq e root) [
    | inl same ↦ let P : ℕ → Type 0 = λ x. is_member p.nodes x ≡ true in
        subst P (sym same) h.root_in
    | inr ne ↦
        let c = f.caused e here_e ne in
        let j = c.place in
        let b = and_parts (is_member (left_of j) e)
        (leb (w.k j) (count_by Y (w.causes j))) c.enough in
        let effect = (filter_in (λ y. not (cut j y)) e (w.effects j) b.0).1 in
        let x = some_counted Y (w.causes j)
        (omega (
          arith,
          counted.each j e effect,
          leb-true (w.k j) (count_by Y (w.causes j)) b.1,
        )) in
        let lower = up.each x.0 e (record { place = j; cause = x.1; effect = effect }) in
        let x_in = fit_nodes rank up counted Y f fuel x.0 (omega (arith, low, lower)) x.2 in
        h.into j e (h.out x.0 j x_in x.1) effect
  ]

  pub fit_within : (rank : ℕ → ℕ) → AreRising w rank → AreCounted w → (Y : NodeSet)
      → IsFit gw root Y → IsSubset Y (is_member p.nodes)
  fit_within rank up counted Y f e i =
      fit_nodes rank up counted Y f (suc (rank e)) e (omega arith) i

  -- what is fit in the graph and lies in a lifted set lies in the set by local numbers
  pub local_within : (Y Z : NodeSet) → IsSubset Y (lifted p.nodes Z) → IsSubset (local p.nodes Y) Z
  local_within Y Z within l i =
      let a = and_parts (ltb l (length p.nodes)) (Y (node l)) i in
      sym (lifted_at p.nodes Z l h.nodes_ascend (ltb-true l (length p.nodes) a.0))
      ∙ within (node l) a.1

  pub lifted_within : (Y Z : NodeSet) → IsSubset Y (is_member p.nodes)
      → IsSubset (local p.nodes Y) Z → IsSubset Y (lifted p.nodes Z)
  lifted_within Y Z inside within e i =
      let q = place_in e p.nodes (inside e i) in
      let P : ℕ → Type 0 = λ x. lifted p.nodes Z x ≡ true in
      subst P q.2 (lifted_at p.nodes Z q.0 h.nodes_ascend q.1
      ∙ within q.0 (and_from (ltb q.0 (length p.nodes)) (Y (node q.0))
      (lt-ltb q.0 (length p.nodes) q.1) (ap Y q.2 ∙ i)))
