-- Marks of rows that stand one behind the other.
use Rattle.std.proofs.Common.{◌≡◌, ◌≢◌, ◌+◌, ◌<◌, ◌++◌, ◌&&◌, ◌||◌, not, ℕ, suc}
use Rattle.std.proofs.Common.{Bool, true}
use Rattle.std.proofs.Common.{false, eqb, ltb, List, [], ◌∷◌, length, get_or, set, refl, sym}
use Rattle.std.proofs.Common.{ap, subst}
use Rattle.std.proofs.Common.{◌∙◌, arith, inl, inr, get_or-set_same, get_or-set_other}
use Rattle.std.specs.List.{filter}
use Rattle.std.proofs.lemmas.List.{length_push, get_or_push, get_or_append_left, length-set}
use Rattle.std.proofs.lemmas.Bool.{cases_eq, cases_lt, cases_Bool, and_parts, and_from, or_cases}
use Rattle.std.proofs.lemmas.Bool.{or_left, or_right, eqb-true, eq-eqb, ne_eqb, ltb-true, lt-ltb}
use Rattle.std.proofs.lemmas.Bool.{cond-true, cond-false, false≢true, both_ways, not_from_false}
use Rattle.std.proofs.lemmas.Bool.{and_right}
use Rattle.ev_incidence.specs.Sets.{is_member, has_mark, ascends, occurs}
use Rattle.ev_incidence.specs.Table.{row_at, IncidenceValue}
use Rattle.ev_graph.specs.declared.instances.Link.{Link}
use Rattle.ev_incidence.proofs.Occurrences.{occurs-cons, in_occurs, occurs_filter, row_in_range}
use Rattle.ev_incidence.proofs.Occurrences.{filter_yes}
use Rattle.ev_incidence.proofs.Occurrences.{filter_no, filter_in, in_at}
use Rattle.ev_incidence.proofs.Ascending.{rises}
use Rattle.dx_sets.specs.Sets.{SetsValue}
use Rattle.dx_sets.specs.Engine.{CutsOf, uncut, IsSteady, SettlesTo}
use Rattle.dx_sets.specs.Links.{CutsOne, LinkIsLost}
use Rattle.dx_sets.proofs.Losing.{keeps_self, keeps_on}
use Rattle.dx_live.specs.Cuts.{CutsValue, first_index, mark_place, cut_at, AreStarts}
use Rattle.dx_live.specs.Cuts.{AreCutsOf, IsOneCut, CutIsMade}

-- the first place of a member
pub first_is : (l : ℕ) (row : List ℕ) → is_member row l ≡ true
    → (first_index l row < length row) × (get_or row (first_index l row) 0 ≡ l)
first_is l [] h = absurd (false≢true h)
first_is l (x ∷ xs) h = elim (cases_Bool (eqb x l)) [
  | inl here ↦
      let e : first_index l (x ∷ xs) ≡ 0 =
      cond-true {A = ℕ} (eqb x l) 0 (suc (first_index l xs)) here in
      let P : ℕ → Type 0 = λ n. (n < length (x ∷ xs)) × (get_or (x ∷ xs) n 0 ≡ l) in
      subst P (sym e) (omega arith, eqb-true x l here)
  | inr away ↦
      let e : first_index l (x ∷ xs) ≡ suc (first_index l xs) =
      cond-false {A = ℕ} (eqb x l) 0 (suc (first_index l xs)) away in
      let there : is_member xs l ≡ true = elim (or_cases (eqb x l) (is_member xs l) h)
      [ inl same ↦ absurd (both_ways (eqb x l) away same) | inr more ↦ more ] in
      let p = first_is l xs there in
      let P : ℕ → Type 0 = λ n. (n < length (x ∷ xs)) × (get_or (x ∷ xs) n 0 ≡ l) in
      subst P (sym e) (omega (arith, p.0), p.1)
]

-- where ascending numbers have it
pub first_at : (l : ℕ) (row : List ℕ) (i : ℕ) → ascends row ≡ true → i < length row
    → get_or row i 0 ≡ l → first_index l row ≡ i
first_at l row i up low is =
    let here : is_member row l ≡ true =
    let P : ℕ → Type 0 = λ y. is_member row y ≡ true in subst P is (in_at row i low) in
    let f = first_is l row here in
    elim (cases_lt (first_index l row) i) [
      | inl lt ↦ absurd (omega (arith, rises row (first_index l row) i up lt low, f.1, is))
      | inr ge ↦ elim (cases_lt i (first_index l row)) [
        | inl gt ↦ absurd (omega (arith, rises row i (first_index l row) up gt f.0, f.1, is))
        | inr le ↦ omega (arith, ge, le)
      ]
    ]

pub found_member : (l : ℕ) (row : List ℕ) (i : ℕ) → i < length row → get_or row i 0 ≡ l
    → is_member row l ≡ true
found_member l row i low is =
    let P : ℕ → Type 0 = λ y. is_member row y ≡ true in subst P is (in_at row i low)

-- what comes after the first of ascending numbers is above it
pub above_head : (x : ℕ) (xs : List ℕ) (e : ℕ) → ascends (x ∷ xs) ≡ true → is_member xs e ≡ true
    → x < e
above_head x [] e up i = absurd (false≢true i)
above_head x (y ∷ ys) e up i =
    let p = and_parts (ltb x y) (ascends (y ∷ ys)) up in
    let less = ltb-true x y p.0 in
    elim (or_cases (eqb y e) (is_member ys e) i) [
      | inl same ↦ omega (arith, less, eqb-true y e same)
      | inr more ↦ omega (arith, less, above_head y ys e p.1 more)
    ]

pub ascends_tail : (x : ℕ) (xs : List ℕ) → ascends (x ∷ xs) ≡ true → ascends xs ≡ true
ascends_tail x [] up = refl
ascends_tail x (y ∷ ys) up = (and_parts (ltb x y) (ascends (y ∷ ys)) up).1

pub ascends_cons : (x : ℕ) (xs : List ℕ) → ascends xs ≡ true
    → ((e : ℕ) → is_member xs e ≡ true → x < e) → ascends (x ∷ xs) ≡ true
ascends_cons x [] up h = refl
ascends_cons x (y ∷ ys) up h =
    and_from (ltb x y) (ascends (y ∷ ys))
    (lt-ltb x y (h y (or_left (eqb y y) (is_member ys y) (eq-eqb y y refl)))) up

-- ascending numbers stand once
pub stands_once : (xs : List ℕ) (v : ℕ) → ascends xs ≡ true → is_member xs v ≡ true
    → occurs v xs ≡ 1
stands_once [] v up i = absurd (false≢true i)
stands_once (x ∷ xs) v up i = elim (cases_eq x v) [
  | inl same ↦ elim (cases_lt 0 (occurs v xs)) [
    | inl some ↦ absurd (omega (arith, above_head x xs v up (in_occurs v xs some), same))
    | inr none ↦ omega (
      arith,
      none,
      occurs-cons v x xs,
      cond-true {A = ℕ} (eqb x v) 1 0 (eq-eqb x v same),
    )
  ]
  | inr ne ↦
      let there : is_member xs v ≡ true = elim (or_cases (eqb x v) (is_member xs v) i)
      [ inl e ↦ absurd (ne (eqb-true x v e)) | inr more ↦ more ] in
      omega (
        arith,
        stands_once xs v (ascends_tail x xs up) there,
        occurs-cons v x xs,
        cond-false {A = ℕ} (eqb x v) 1 0 (ne_eqb x v ne),
      )
]

pub filter_ascends : (p : ℕ → Bool) (xs : List ℕ) → ascends xs ≡ true
    → ascends (filter p xs) ≡ true
filter_ascends p [] up = refl
filter_ascends p (x ∷ xs) up =
    let rest = filter_ascends p xs (ascends_tail x xs up) in
    elim (cases_Bool (p x)) [
      | inl pass ↦ ap ascends (filter_yes p x xs pass)
          ∙ ascends_cons x (filter p xs) rest (λ e i. above_head x xs e up (filter_in p e xs i).1)
      | inr fail ↦ ap ascends (filter_no p x xs fail) ∙ rest
    ]

-- the starts of rows
pub starts_none : (rows : List (List ℕ)) → AreStarts 0 rows [] 0
starts_none rows = record {
  count = refl;
  inside = λ t i l m. absurd (omega (arith, l));
  apart = λ t u i l m k. absurd (omega (arith, m));
}

pub starts_push : (n : ℕ) (rows : List (List ℕ)) (starts : List ℕ) (total : ℕ)
    → AreStarts n rows starts total
    → AreStarts (n + 1) rows (starts ++ total ∷ []) (total + length (row_at rows n))
starts_push n rows starts total h = record {
  count = omega (arith, length_push starts total, h.count);
  inside = λ t i l m. elim (cases_eq t n) [
    | inl same ↦ omega (
      arith,
      at_t t same,
      m,
      ap (λ (z : ℕ). length (row_at rows z)) same,
    )
    | inr ne ↦ omega (arith, before t (omega (arith, l, ne)), h.inside t i (omega (arith, l, ne)) m)
  ];
  apart = λ t u i l m k. elim (cases_eq u n) [
    | inl same ↦ omega (
      arith,
      before t (omega (arith, l, same)),
      at_t u same,
      h.inside t i (omega (arith, l, same)) k,
    )
    | inr ne ↦ omega (
      arith,
      before t (omega (arith, l, m, ne)),
      before u (omega (arith, m, ne)),
      h.apart t u i l (omega (arith, m, ne)) k,
    )
  ];
} where
  at_t : (t : ℕ) → t ≡ n → get_or (starts ++ total ∷ []) t 0 ≡ total
  at_t t same = get_or_push starts total 0 t (h.count ∙ sym same)

  before : (t : ℕ) → t < n → get_or (starts ++ total ∷ []) t 0 ≡ get_or starts t 0
  before t l = get_or_append_left starts (total ∷ []) 0 t (omega (arith, l, h.count))

or_none : (a b : Bool) → b ≡ false → (a || b) ≡ a
or_none true b f = refl
or_none false b f = f

-- one more mark cuts one more link
module _ (rows : List (List ℕ)) (c : CutsValue) (h : AreCutsOf rows c) (link : Link)
    (there : is_member (row_at rows link.instance) link.effect ≡ true) where
  abbrev row : List ℕ
  row = row_at rows link.instance

  abbrev at : ℕ
  at = mark_place c row link.instance link.effect

  t_in : link.instance < length rows
  t_in = row_in_range rows link.instance link.effect there

  pub mark_inside : at < length c.marks
  mark_inside = h.starts.inside link.instance (first_index link.effect row) t_in
      (first_is link.effect row there).0

  abbrev marked : CutsValue
  marked = record { starts = c.starts; marks = set c.marks at true }

  -- another link has another mark
  other_mark : (t l : ℕ) → is_member (row_at rows t) l ≡ true
      → (t ≡ link.instance → l ≡ link.effect → ⊥)
      → mark_place c (row_at rows t) t l ≢ at
  other_mark t l i ne same =
      let f = first_is l (row_at rows t) i in
      let k = first_is link.effect row there in
      let u_in = row_in_range rows t l i in
      elim (cases_lt t link.instance) [
        | inl lt ↦ omega (
          arith,
          same,
          h.starts.apart t link.instance (first_index l (row_at rows t)) lt t_in f.0,
        )
        | inr ge ↦ elim (cases_lt link.instance t) [
          | inl gt ↦ omega (
            arith,
            same,
            h.starts.apart link.instance t (first_index link.effect row) gt u_in k.0,
          )
          | inr le ↦
              let same_t : t ≡ link.instance = omega (arith, ge, le) in
              let same_row : row_at rows t ≡ row = ap (row_at rows) same_t in
              let same_place : first_index l (row_at rows t) ≡ first_index link.effect row =
              omega (arith, same, ap (λ (z : ℕ). get_or c.starts z 0) same_t) in
              ne same_t (sym f.1
              ∙ (ap (λ (xs : List ℕ). get_or xs (first_index l (row_at rows t)) 0) same_row
              ∙ (ap (λ (z : ℕ). get_or row z 0) same_place ∙ k.1)))
        ]
      ]

  now_cut : (t l : ℕ) → t ≡ link.instance → l ≡ link.effect → cut_at rows marked t l ≡ true
  now_cut t l a b =
      let P : ℕ → Type 0 = λ u. cut_at rows marked u l ≡ true in
      let Q : ℕ → Type 0 = λ e. cut_at rows marked link.instance e ≡ true in
      subst P (sym a) (subst Q (sym b) (and_from (is_member row link.effect)
      (has_mark (set c.marks at true) at) there
      (get_or-set_same c.marks at true false mark_inside)))

  stays_cut : (t l : ℕ) → (t ≡ link.instance → l ≡ link.effect → ⊥)
      → cut_at rows marked t l ≡ cut_at rows c t l
  stays_cut t l ne = elim (cases_Bool (is_member (row_at rows t) l)) [
    | inl i ↦ ap (λ (b : Bool). is_member (row_at rows t) l && b)
        (get_or-set_other c.marks at (mark_place c (row_at rows t) t l) true false
        (other_mark t l i ne))
    | inr away ↦
        ap (λ (b : Bool). b && has_mark (set c.marks at true) (mark_place c (row_at rows t) t l))
        away
        ∙ sym (ap (λ (b : Bool). b && has_mark c.marks (mark_place c (row_at rows t) t l)) away)
  ]

  pub one_marked : CutsOne (cut_at rows c) link (cut_at rows marked)
  one_marked = record {
    each = λ t l. elim (cases_Bool (eqb t link.instance && eqb l link.effect)) [
      | inl both ↦
          let p = and_parts (eqb t link.instance) (eqb l link.effect) both in
          now_cut t l (eqb-true t link.instance p.0) (eqb-true l link.effect p.1)
          ∙ sym (or_right (cut_at rows c t l) (eqb t link.instance && eqb l link.effect) both)
      | inr other ↦
          stays_cut t l (λ a b. both_ways (eqb t link.instance && eqb l link.effect) other
          (and_from (eqb t link.instance) (eqb l link.effect)
          (eq-eqb t link.instance a) (eq-eqb l link.effect b)))
          ∙ sym (or_none (cut_at rows c t l) (eqb t link.instance && eqb l link.effect) other)
    ];
  }

  pub marked_cuts : AreCutsOf rows marked
  marked_cuts = record {
    starts = record {
      count = h.starts.count;
      inside = λ t i l m. omega (
        arith,
        h.starts.inside t i l m,
        length-set c.marks at true,
      );
      apart = h.starts.apart;
    };
    ascending = h.ascending;
  }

-- where it was cut before
pub cut_before : (rows : List (List ℕ)) (cut : CutsOf) (link : Link)
    → (is_member (row_at rows link.instance) link.effect ≡ true
    → cut link.instance link.effect ≡ true) → IsOneCut rows link cut cut
cut_before rows cut link h = record {
  each = λ t l i. elim (cases_Bool (eqb t link.instance && eqb l link.effect)) [
    | inr other ↦ sym (or_none (cut t l) (eqb t link.instance && eqb l link.effect) other)
    | inl both ↦
        let p = and_parts (eqb t link.instance) (eqb l link.effect) both in
        let a = eqb-true t link.instance p.0 in
        let b = eqb-true l link.effect p.1 in
        let P : ℕ → Type 0 = λ u. is_member (row_at rows u) l ≡ true in
        let Q : ℕ → Type 0 = λ e. is_member (row_at rows link.instance) e ≡ true in
        let was : cut t l ≡ true =
        let R : ℕ → Type 0 = λ u. cut u l ≡ true in
        let S : ℕ → Type 0 = λ e. cut link.instance e ≡ true in
        subst R (sym a) (subst S (sym b) (h (subst Q b (subst P a i)))) in
        was ∙ sym (or_left (cut t l) (eqb t link.instance && eqb l link.effect) was)
  ];
}

-- the effect of an uncut link stands once among the uncut ones
pub uncut_once : (v : IncidenceValue) (c : CutsValue) (link : Link) → AreCutsOf v.effects c
    → is_member (row_at v.effects link.instance) link.effect ≡ true
    → has_mark c.marks (mark_place c (row_at v.effects link.instance) link.instance link.effect)
    ≡ false → occurs link.effect (uncut v (cut_at v.effects c) link.instance) ≡ 1
uncut_once v c link h there unmarked =
    let row = row_at v.effects link.instance in
    let cut : ℕ → Bool = λ x. cut_at v.effects c link.instance x in
    let off : cut link.effect ≡ false = and_right (is_member row link.effect)
    (has_mark c.marks (mark_place c row link.instance link.effect)) unmarked in
    occurs_filter (λ x. not (cut x)) link.effect row
    ∙ (cond-true {A = ℕ} (not (cut link.effect)) (occurs link.effect row) 0
    (not_from_false (cut link.effect) off)
    ∙ stands_once row link.effect (h.ascending.each link.instance) there)

-- a link is cut, and what may not stay without it has left
pub made_cut : (v : IncidenceValue) (here : ℕ) (link : Link) (c : CutsValue)
    (h : AreCutsOf v.effects c)
    (there : is_member (row_at v.effects link.instance) link.effect ≡ true) (s t u : SetsValue)
    (d : CutsValue)
    → d ≡ record {
      starts = c.starts;
      marks = set c.marks
          (mark_place c (row_at v.effects link.instance) link.instance link.effect) true;
    }
    → LinkIsLost v (cut_at v.effects c) here link s t → IsSteady v (cut_at v.effects d) here u
    → u.pending ≡ [] → SettlesTo v (cut_at v.effects d) here t u
    → CutIsMade v here link c s d u
made_cut v here link c h there s t u d is lost steady over ends =
    let one : CutsOne (cut_at v.effects c) link (cut_at v.effects d) =
    let P : CutsValue → Type 0 = λ z. CutsOne (cut_at v.effects c) link (cut_at v.effects z) in
    subst P (sym is) (one_marked v.effects c h link there) in
    let way = lost.way (cut_at v.effects d) one in
    record {
      cuts = let P : CutsValue → Type 0 = λ z. AreCutsOf v.effects z in
          subst P (sym is) (marked_cuts v.effects c h link there);
      one = record { each = λ a b i. one.each a b };
      steady = steady;
      over = over;
      shrinks = λ e m. way.moves.shrinks e (ends.shrinks e m);
      keeps = keeps_on v (cut_at v.effects d) here s t u way.keeps ends.keeps;
    }

-- a link that was cut before, or is none
pub nothing_cut : (v : IncidenceValue) (here : ℕ) (link : Link) (c : CutsValue) (s : SetsValue)
    → AreCutsOf v.effects c → IsSteady v (cut_at v.effects c) here s → s.pending ≡ []
    → (is_member (row_at v.effects link.instance) link.effect ≡ true
    → cut_at v.effects c link.instance link.effect ≡ true) → CutIsMade v here link c s c s
nothing_cut v here link c s h steady over was = record {
  cuts = h;
  one = cut_before v.effects (cut_at v.effects c) link was;
  steady = steady;
  over = over;
  shrinks = λ e m. m;
  keeps = keeps_self v (cut_at v.effects c) here s;
}
