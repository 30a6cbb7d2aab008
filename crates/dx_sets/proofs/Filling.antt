-- The beginning, and the greatest set at the end.
use Rattle.std.proofs.Common.{◌≡◌, ◌+◌, ◌<◌, ◌&&◌, not, ℕ, zero, suc}
use Rattle.std.proofs.Common.{Bool, true, false, cond, eqb, leb, List, [], ◌∷◌, length, get_or}
use Rattle.std.proofs.Common.{refl, sym, ap, ◌∙◌, arith, inl, inr}
use Rattle.std.specs.List.{sum_by, count_by}
use Rattle.std.proofs.lemmas.List.Sums.{sum_by-cons}
use Rattle.std.proofs.lemmas.Bool.{cases_eq, cases_Bool, and_parts, and_from}
use Rattle.std.proofs.lemmas.Bool.{or_left, or_right, eq-eqb, ne_eqb, leb-true}
use Rattle.std.proofs.lemmas.Bool.{le-leb, cond-true, cond-false}
use Rattle.std.proofs.lemmas.Bool.{not_from_false}
use Rattle.ev_incidence.specs.Sets.{NodeSet, is_member, has_mark, occurs, IsSubset}
use Rattle.ev_incidence.specs.Table.{row_at, IncidenceValue, IsIncidence}
use Rattle.ev_incidence.proofs.Occurrences.{occurs-cons, in_occurs, row_in_range}
use Rattle.ev_incidence.proofs.Occurrences.{in_transposed, transposed_in, filter_in, occurs_filter}
use Rattle.dx_sets.specs.Fit.{IsFit, IsGreatestFit}
use Rattle.dx_sets.specs.Sets.{SetsValue, weight, sum_below}
use Rattle.dx_sets.specs.Engine.{CutsOf, uncut, wiring_cut, AreSized, AreExact}
use Rattle.dx_sets.specs.Engine.{KeepsFit, HaveCounts, AreFilled, is_giver, IsSteady}
use Rattle.dx_sets.specs.Engine.{has_enough, HaveEnough}
use Rattle.dx_sets.proofs.Sums.{sum_below_same, sum_below_change, positive_term}
use Rattle.dx_sets.proofs.Leaving.{marked_below}

-- a count over a list, and over all numbers
sum_below_zero : (n : ℕ) → sum_below n (λ j. 0) ≡ 0
sum_below_zero zero = refl
sum_below_zero (suc n) = omega (arith, sum_below_zero n)

sum_below_add : (n : ℕ) (f g : ℕ → ℕ) → sum_below n (λ j. f j + g j) ≡ sum_below n f + sum_below n g
sum_below_add zero f g = refl
sum_below_add (suc n) f g = omega (arith, sum_below_add n f g)

sum_below_one : (n x a : ℕ) → x < n → sum_below n (λ j. cond (eqb x j) a 0) ≡ a
sum_below_one n x a l =
    omega (
      arith,
      sum_below_zero n,
      sum_below_change n (λ j. cond (eqb x j) a 0) (λ j. 0) x l
          (λ i m ne. cond-false {A = ℕ} (eqb x i) a 0 (ne_eqb x i (λ q. ne (sym q)))),
      cond-true {A = ℕ} (eqb x x) a 0 (eq-eqb x x refl),
    )

none_term : (b : Bool) → ◌≡◌ {A = ℕ} (cond b 0 0) 0
none_term true = refl
none_term false = refl

split_term : (p : ℕ → Bool) (x : ℕ) (xs : List ℕ) (j : ℕ)
    → cond (p j) (occurs j (x ∷ xs)) 0 ≡ cond (eqb x j) (cond (p x) 1 0) 0 + cond (p j)
    (occurs j xs) 0
split_term p x xs j = elim (cases_eq x j) [
  | inl same ↦
      let hit = eq-eqb x j same in
      let q : p x ≡ p j = ap p same in
      elim (cases_Bool (p j)) [
        | inl pass ↦ omega (
          arith,
          occurs-cons j x xs,
          cond-true {A = ℕ} (eqb x j) 1 0 hit,
          cond-true {A = ℕ} (p j) (occurs j (x ∷ xs)) 0 pass,
          cond-true {A = ℕ} (p j) (occurs j xs) 0 pass,
          cond-true {A = ℕ} (eqb x j) (cond (p x) 1 0) 0 hit,
          cond-true {A = ℕ} (p x) 1 0 (q ∙ pass),
        )
        | inr fail ↦ omega (
          arith,
          cond-false {A = ℕ} (p j) (occurs j (x ∷ xs)) 0 fail,
          cond-false {A = ℕ} (p j) (occurs j xs) 0 fail,
          cond-true {A = ℕ} (eqb x j) (cond (p x) 1 0) 0 hit,
          cond-false {A = ℕ} (p x) 1 0 (q ∙ fail),
        )
      ]
  | inr ne ↦
      let miss = ne_eqb x j ne in
      let same : occurs j (x ∷ xs) ≡ occurs j xs =
      omega (arith, occurs-cons j x xs, cond-false {A = ℕ} (eqb x j) 1 0 miss) in
      omega (
        arith,
        ap (λ (m : ℕ). cond (p j) m 0) same,
        cond-false {A = ℕ} (eqb x j) (cond (p x) 1 0) 0 miss,
      )
]

pub count_below : (p : ℕ → Bool) (n : ℕ) (xs : List ℕ) → ((x : ℕ) → is_member xs x ≡ true → x < n)
    → count_by p xs ≡ sum_below n (λ j. cond (p j) (occurs j xs) 0)
count_below p n [] h =
    sym (sum_below_same n (λ j. cond (p j) 0 0) (λ j. 0) (λ i l. none_term (p i))
    ∙ sum_below_zero n)
count_below p n (x ∷ xs) h =
    omega (
      arith,
      count_below p n xs (λ y i. h y (or_right (eqb x y) (is_member xs y) i)),
      sum_by-cons (λ y. cond (p y) 1 0) x xs,
      sum_below_same n (λ j. cond (p j) (occurs j (x ∷ xs)) 0)
          (λ j. cond (eqb x j) (cond (p x) 1 0) 0 + cond (p j) (occurs j xs) 0)
          (λ i l. split_term p x xs i),
      sum_below_add n (λ j. cond (eqb x j) (cond (p x) 1 0) 0) (λ j. cond (p j) (occurs j xs) 0),
      sum_below_one n x (cond (p x) 1 0)
          (h x (or_left (eqb x x) (is_member xs x) (eq-eqb x x refl))),
    )

-- all members of a list count where all are marked
all_count : (X : NodeSet) (xs : List ℕ) → ((x : ℕ) → is_member xs x ≡ true → X x ≡ true)
    → count_by X xs ≡ length xs
all_count X [] h = refl
all_count X (x ∷ xs) h =
    omega (
      arith,
      sum_by-cons (λ y. cond (X y) 1 0) x xs,
      all_count X xs (λ y i. h y (or_right (eqb x y) (is_member xs y) i)),
      cond-true {A = ℕ} (X x) 1 0 (h x (or_left (eqb x x) (is_member xs x) (eq-eqb x x refl))),
    )

-- two tests that agree on the members of a list count the same of it
same_count : (p q : ℕ → Bool) (xs : List ℕ) → ((x : ℕ) → is_member xs x ≡ true → p x ≡ q x)
    → count_by p xs ≡ count_by q xs
same_count p q [] h = refl
same_count p q (x ∷ xs) h =
    omega (
      arith,
      sum_by-cons (λ y. cond (p y) 1 0) x xs,
      sum_by-cons (λ y. cond (q y) 1 0) x xs,
      same_count p q xs (λ y i. h y (or_right (eqb x y) (is_member xs y) i)),
      ap {B = ℕ} (λ (b : Bool). cond b 1 0) (h x (or_left (eqb x x) (is_member xs x)
          (eq-eqb x x refl))),
    )

and_true : (a b : Bool) → b ≡ true → a ≡ (a && b)
and_true true b t = sym t
and_true false b t = refl

both : (a b c2 : Bool) (m n : ℕ) → c2 ≡ b → n ≡ cond a m 0 → cond (a && b) m 0 ≡ cond c2 n 0
both true true c2 m n e2 f = rw e2 (sym f)
both true false c2 m n e2 f = rw e2 refl
both false true c2 m n e2 f = rw e2 (sym f)
both false false c2 m n e2 f = rw e2 refl

module _ (v : IncidenceValue) (cut : CutsOf) (inc : IsIncidence v) where
  cause_in_range : (j x : ℕ) → is_member (row_at v.causes j) x ≡ true → x < length v.uses
  cause_in_range j x h = row_in_range v.uses x j (in_transposed v.causes v.uses x j inc.uses_is h)

  effect_in_range : (j x : ℕ) → is_member (row_at v.effects j) x ≡ true → x < length v.uses
  effect_in_range j x h =
      omega (
        arith,
        row_in_range v.gets x j (in_transposed v.effects v.gets x j inc.gets_is h),
        inc.nodes_count,
      )

  -- where each instance has K causes, those that give a node are those by links that are not cut
  pub all_give : (e : ℕ) → HaveEnough v (length v.causes)
      → count_by (λ j. not (cut j e)) (row_at v.gets e)
      ≡ count_by (is_giver v cut e) (row_at v.gets e)
  all_give e h = same_count (λ j. not (cut j e)) (is_giver v cut e) (row_at v.gets e)
      (λ j i. and_true (not (cut j e)) (has_enough v j) (h.each j (omega (
        arith,
        row_in_range v.effects j e (transposed_in v.effects v.gets e j inc.gets_is i),
        inc.effects_count,
      ))))

  -- the counters of a full set are right
  pub filled_exact : (s : SetsValue) → AreSized v s → AreFilled v s
      → HaveCounts v cut (length v.causes) s
      → ((e : ℕ) → e < length v.uses
      → get_or s.support e 0 ≡ count_by (is_giver v cut e) (row_at v.gets e))
      → AreExact v cut s [] []
  filled_exact s sized full counts support = record {
    sized = sized;
    causes = λ j j_in. omega (
      arith,
      counts.causes j j_in,
      all_count (has_mark s.marks) (row_at v.causes j)
          (λ x i. full.each x (cause_in_range j x i)),
      ap (λ (ps : List ℕ). sum_by (λ y. occurs y (row_at v.causes j)) ps) full.none,
    );
    effects = λ j j_in. omega (
      arith,
      counts.effects j j_in,
      all_count (has_mark s.marks) (uncut v cut j)
          (λ x i. full.each x (effect_in_range j x
          (filter_in (λ e. not (cut j e)) x (row_at v.effects j) i).1)),
      ap (λ (ps : List ℕ). sum_by (λ y. occurs y (uncut v cut j)) ps) full.none,
    );
    support = λ e e_in. support e e_in
        ∙ (count_below (is_giver v cut e) (length v.causes) (row_at v.gets e)
        (λ j i. omega (
          arith,
          row_in_range v.effects j e (transposed_in v.effects v.gets e j inc.gets_is i),
          inc.effects_count,
        ))
        ∙ sum_below_same (length v.causes)
        (λ j. cond (is_giver v cut e j) (occurs j (row_at v.gets e)) 0)
        (λ j. cond (leb (get_or v.k j 0) (get_or s.causes_left j 0)) (occurs e (uncut v cut j))
        0)
        (λ j j_in. same_term s e j (counts.causes j j_in)));
  } where
    same_term : (u : SetsValue) (e j : ℕ) → get_or u.causes_left j 0 ≡ length (row_at v.causes j)
        → cond (is_giver v cut e j) (occurs j (row_at v.gets e)) 0
        ≡ cond (leb (get_or v.k j 0) (get_or u.causes_left j 0)) (occurs e (uncut v cut j)) 0
    same_term u e j c =
        let enough : leb (get_or v.k j 0) (get_or u.causes_left j 0)
        ≡ leb (get_or v.k j 0) (length (row_at v.causes j)) =
        ap (λ (m : ℕ). leb (get_or v.k j 0) m) c in
        let gives = inc.gets_is.each e j in
        let kept = occurs_filter (λ x. not (cut j x)) e (row_at v.effects j) in
        both (not (cut j e)) (leb (get_or v.k j 0) (length (row_at v.causes j)))
        (leb (get_or v.k j 0) (get_or u.causes_left j 0))
        (occurs j (row_at v.gets e)) (occurs e (uncut v cut j)) enough
        (kept ∙ ap (λ (m : ℕ). cond (not (cut j e)) m 0) (sym gives))

  -- what is left at the end is fit
  pub steady_fit : (root : ℕ) (s : SetsValue) → IsSteady v cut root s → s.pending ≡ []
      → IsFit (wiring_cut v cut) root (has_mark s.marks)
  steady_fit root s h none =
      let whole : (xs : List ℕ) → weight s xs ≡ count_by (has_mark s.marks) xs =
      λ xs. omega (arith, ap (λ (ps : List ℕ). sum_by (λ y. occurs y xs) ps) none) in
      record {
        caused = λ e here ne.
            let e_in : e < length v.uses =
            omega (arith, marked_below s.marks e here, h.exact.sized.marks) in
            let t = positive_term (length v.causes)
            (λ j. cond (leb (get_or v.k j 0) (get_or s.causes_left j 0))
            (occurs e (uncut v cut j)) 0)
            (omega (arith, h.given.each e here ne, h.exact.support e e_in)) in
            let j = t.0 in
            elim (cases_Bool (leb (get_or v.k j 0) (get_or s.causes_left j 0))) [
              | inl enough ↦ record {
                place = j;
                enough = and_from (is_member (uncut v cut j) e)
                    (leb (get_or v.k j 0) (count_by (has_mark s.marks) (row_at v.causes j)))
                    (in_occurs e (uncut v cut j)
                    (omega (
                      arith,
                      t.2,
                      cond-true {A = ℕ}
                          (leb (get_or v.k j 0) (get_or s.causes_left j 0))
                          (occurs e (uncut v cut j)) 0
                          enough,
                    )))
                    (le-leb (get_or v.k j 0) (count_by (has_mark s.marks) (row_at v.causes j))
                    (omega (
                      arith,
                      leb-true (get_or v.k j 0) (get_or s.causes_left j 0) enough,
                      h.exact.causes j t.1,
                      whole (row_at v.causes j),
                    )));
              }
              | inr few ↦ absurd (omega (
                arith,
                t.2,
                cond-false {A = ℕ} (leb (get_or v.k j 0) (get_or s.causes_left j 0))
                    (occurs e (uncut v cut j)) 0 few,
              ))
            ];
        shown = λ e here. record {
          each = λ j. elim (cases_Bool (is_member (row_at v.causes j) e)) [
            | inl cause ↦
                let j_in = row_in_range v.causes j e cause in
                or_right (not (is_member (row_at v.causes j) e))
                (leb (get_or v.n j 0) (count_by (has_mark s.marks) (uncut v cut j)))
                (le-leb (get_or v.n j 0) (count_by (has_mark s.marks) (uncut v cut j))
                (omega (
                  arith,
                  h.met.each j e cause here,
                  h.exact.effects j j_in,
                  whole (uncut v cut j),
                )))
            | inr other ↦ or_left (not (is_member (row_at v.causes j) e))
                (leb (get_or v.n j 0) (count_by (has_mark s.marks) (uncut v cut j)))
                (not_from_false (is_member (row_at v.causes j) e) other)
          ];
        };
      }

  -- members of a fit set are nodes, where the root is one
  pub fit_below : (root : ℕ) (Y : NodeSet) (e : ℕ) → root < length v.uses
      → IsFit (wiring_cut v cut) root Y → Y e ≡ true → e < length v.uses
  fit_below root Y e root_in f here = elim (cases_eq e root) [
    | inl same ↦ omega (arith, same, root_in)
    | inr ne ↦
        let c = f.caused e here ne in
        let p = and_parts (is_member (uncut v cut c.place) e)
        (leb (get_or v.k c.place 0) (count_by Y (row_at v.causes c.place))) c.enough in
        effect_in_range c.place e
        (filter_in (λ x. not (cut c.place x)) e (row_at v.effects c.place) p.0).1
  ]

  -- the end is the greatest fit set of those nodes that were allowed at the beginning
  pub greatest_at_end : (root : ℕ) (allowed : NodeSet) (s t : SetsValue) → root < length v.uses
      → IsSteady v cut root t → t.pending ≡ []
      → IsSubset (has_mark t.marks) (has_mark s.marks) → KeepsFit (wiring_cut v cut) root s t
      → IsSubset (has_mark s.marks) allowed
      → ((e : ℕ) → e < length v.uses → allowed e ≡ true → has_mark s.marks e ≡ true)
      → IsGreatestFit (wiring_cut v cut) root allowed (has_mark t.marks)
  greatest_at_end root allowed s t root_in steady none shrinks keeps low high = record {
    fit = steady_fit root t steady none;
    within = λ e h. low e (shrinks e h);
    every = λ Y f w e y. keeps.keeps Y f (λ x q. high x (fit_below root Y x root_in f q) (w x q)) e
        y;
  }
