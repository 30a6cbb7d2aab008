-- What it does when a link is cut.
use Rattle.std.proofs.Common.{◌≡◌, ◌≢◌, ◌+◌, ◌<◌, ◌≤◌, ◌&&◌, ◌||◌, not, ℕ, Bool, true, false}
use Rattle.std.proofs.Common.{cond, eqb, leb, List, [], ◌∷◌, length, get_or, refl, sym, ap, subst}
use Rattle.std.proofs.Common.{◌∙◌, arith, inl, inr}
use Rattle.std.specs.List.{count_by, filter, sum_by}
use Rattle.std.proofs.lemmas.List.Sums.{sum_by-cons}
use Rattle.std.proofs.lemmas.Bool.{cases_eq, cases_Bool, eq-eqb, ne_eqb, cond-true, cond-false}
use Rattle.std.proofs.lemmas.Bool.{le-leb, lt-leb, not_from_false, not_from_true}
use Rattle.ev_incidence.specs.Sets.{NodeSet, is_member, has_mark, occurs}
use Rattle.ev_incidence.specs.Table.{row_at, IncidenceValue}
use Rattle.ev_graph.specs.declared.instances.Link.{Link}
use Rattle.ev_incidence.proofs.Occurrences.{occurs-cons, in_occurs, filter_yes, filter_no}
use Rattle.ev_incidence.proofs.Occurrences.{filter_in}
use Rattle.ev_incidence.proofs.Occurrences.{in_transposed, row_in_range}
use Rattle.dx_sets.specs.Sets.{SetsValue, weight, sum_below}
use Rattle.dx_sets.specs.Engine.{CutsOf, uncut, supports, AreExact}
use Rattle.dx_sets.specs.Engine.{AreMet, cost, giver_lost, IsPaying, CausesLeave, IsOnWay}
use Rattle.dx_sets.specs.Engine.{IsSteady}
use Rattle.dx_sets.specs.Links.{CutsOne, one_effect_less, EffectLeaves}
use Rattle.dx_sets.proofs.Sums.{sum_below_change, term_le_sum}
use Rattle.dx_sets.proofs.Leaving.{moves_self}
use Rattle.dx_sets.proofs.Losing.{uncut_in_range, paid_one, keeps_self, exact_less, given_less}
use Rattle.dx_sets.proofs.Losing.{met_more, met_left, keeps_left, cost_more, cost_left}
use Rattle.dx_sets.proofs.Beginning.{way_on}
use Rattle.dx_sets.proofs.Looking.{way_same}

filter_same : (p q : ℕ → Bool) (xs : List ℕ) → ((x : ℕ) → p x ≡ q x) → filter p xs ≡ filter q xs
filter_same p q xs h =
    let same : ◌≡◌ {A = ℕ → Bool} p q = λ i. λ x. h x i in
    ap (λ (t : ℕ → Bool). filter t xs) same

-- a count over a list that one number left
drop_one : (X p q : NodeSet) (e : ℕ) (xs : List ℕ) → ((x : ℕ) → q x ≡ (p x && not (eqb x e)))
    → count_by X (filter p xs) ≡ count_by X (filter q xs) + cond (X e) (occurs e (filter p xs)) 0
drop_one X p q e [] h = elim (cases_Bool (X e)) [
  | inl here ↦ omega (arith, cond-true {A = ℕ} (X e) (occurs e []) 0 here)
  | inr away ↦ omega (arith, cond-false {A = ℕ} (X e) (occurs e []) 0 away)
]
drop_one X p q e (x ∷ xs) h =
    let rest = drop_one X p q e xs h in
    elim (cases_Bool (p x)) [
      | inr no_one ↦
          let out : q x ≡ false = h x ∙ ap (λ (b : Bool). b && not (eqb x e)) no_one in
          omega (
            arith,
            rest,
            ap (λ (ys : List ℕ). count_by X ys) (filter_no p x xs no_one),
            ap (λ (ys : List ℕ). count_by X ys) (filter_no q x xs out),
            ap (λ (ys : List ℕ). cond (X e) (occurs e ys) 0) (filter_no p x xs no_one),
          )
      | inl in_p ↦
          let a = ap (λ (ys : List ℕ). count_by X ys) (filter_yes p x xs in_p) in
          let a2 = ap (λ (ys : List ℕ). occurs e ys) (filter_yes p x xs in_p) in
          let b = sum_by-cons (λ y. cond (X y) 1 0) x (filter p xs) in
          let d = occurs-cons e x (filter p xs) in
          let q_is : q x ≡ not (eqb x e) = h x ∙ ap (λ (t : Bool). t && not (eqb x e)) in_p in
          elim (cases_eq x e) [
            | inl same ↦
                let out : q x ≡ false = q_is ∙ not_from_true (eqb x e) (eq-eqb x e same) in
                let g = ap (λ (ys : List ℕ). count_by X ys) (filter_no q x xs out) in
                let one = cond-true {A = ℕ} (eqb x e) 1 0 (eq-eqb x e same) in
                elim (cases_Bool (X e)) [
                  | inl here ↦ omega (
                    arith,
                    rest,
                    a,
                    a2,
                    b,
                    d,
                    g,
                    one,
                    cond-true {A = ℕ} (X x) 1 0 (ap X same ∙ here),
                    cond-true {A = ℕ} (X e) (occurs e (filter p xs)) 0 here,
                    cond-true {A = ℕ} (X e) (occurs e (filter p (x ∷ xs))) 0 here,
                  )
                  | inr away ↦ omega (
                    arith,
                    rest,
                    a,
                    b,
                    g,
                    cond-false {A = ℕ} (X x) 1 0 (ap X same ∙ away),
                    cond-false {A = ℕ} (X e) (occurs e (filter p xs)) 0 away,
                    cond-false {A = ℕ} (X e) (occurs e (filter p (x ∷ xs))) 0 away,
                  )
                ]
            | inr ne ↦
                let in_q : q x ≡ true = q_is ∙ not_from_false (eqb x e) (ne_eqb x e ne) in
                let g = ap (λ (ys : List ℕ). count_by X ys) (filter_yes q x xs in_q) in
                let g2 = sum_by-cons (λ y. cond (X y) 1 0) x (filter q xs) in
                let o : occurs e (filter p (x ∷ xs)) ≡ occurs e (filter p xs) =
                omega (arith, a2, d, cond-false {A = ℕ} (eqb x e) 1 0 (ne_eqb x e ne)) in
                omega (
                  arith,
                  rest,
                  a,
                  b,
                  g,
                  g2,
                  ap (λ (m : ℕ). cond (X e) m 0) o,
                )
          ]
    ]

-- the test with the link
abbrev pub with_one : CutsOf → Link → CutsOf
with_one cut link j e = cut j e || (eqb j link.instance && eqb e link.effect)

pub with_one_is : (cut : CutsOf) (link : Link) → CutsOne cut link (with_one cut link)
with_one_is cut link = record { each = λ j e. refl }

or_none : (a b : Bool) → b ≡ false → (a || b) ≡ a
or_none true b h = refl
or_none false b h = h

not_either : (a b : Bool) → not (a || b) ≡ (not a && not b)
not_either true b = refl
not_either false b = refl

module _ (v : IncidenceValue) (cut : CutsOf) (root : ℕ) (link : Link) (s : SetsValue)
    (h : IsSteady v cut root s)
    (once : occurs link.effect (uncut v cut link.instance) ≡ 1) where
  abbrev j : ℕ
  j = link.instance

  abbrev e : ℕ
  e = link.effect

  in_uncut : is_member (uncut v cut j) e ≡ true
  in_uncut = in_occurs e (uncut v cut j) (omega (arith, once))

  j_in : j < length v.causes
  j_in = uncut_in_range v cut j e h.incidence in_uncut

  e_in : e < length v.uses
  e_in = omega (
    arith,
    row_in_range v.gets e j (in_transposed v.effects v.gets e j h.incidence.gets_is
        (filter_in (λ x. not (cut j x)) e (row_at v.effects j) in_uncut).1),
    h.incidence.nodes_count,
  )

  -- it has a giver
  pub gift_there : get_or v.k j 0 ≤ get_or s.causes_left j 0 → 0 < get_or s.support e 0
  gift_there enough = omega (
    arith,
    h.exact.support e e_in,
    once,
    term_le_sum (length v.causes)
        (λ i. cond (leb (get_or v.k i 0) (get_or s.causes_left i 0)) (occurs e (uncut v cut i)) 0)
        j j_in,
    cond-true {A = ℕ} (leb (get_or v.k j 0) (get_or s.causes_left j 0)) (occurs e (uncut v cut j)) 0
        (le-leb (get_or v.k j 0) (get_or s.causes_left j 0) enough),
  )

  module _ (more : CutsOf) (c : CutsOne cut link more) where
    other_row : (i : ℕ) → i ≢ j → uncut v more i ≡ uncut v cut i
    other_row i ne = filter_same (λ x. not (more i x)) (λ x. not (cut i x)) (row_at v.effects i)
        (λ x. ap not (c.each i x ∙ or_none (cut i x) (eqb i j && eqb x e)
        (ap (λ (b : Bool). b && eqb x e) (ne_eqb i j ne))))

    kept_test : (x : ℕ) → not (more j x) ≡ (not (cut j x) && not (eqb x e))
    kept_test x = ap not (c.each j x)
        ∙ (ap (λ (b : Bool). not (cut j x || (b && eqb x e))) (eq-eqb j j refl)
        ∙ not_either (cut j x) (eqb x e))

    less_count : (X : NodeSet) → count_by X (uncut v cut j)
        ≡ count_by X (uncut v more j) + cond (X e) (occurs e (uncut v cut j)) 0
    less_count X = drop_one X (λ x. not (cut j x)) (λ x. not (more j x)) e (row_at v.effects j)
        kept_test

    term_cut : ℕ → ℕ → ℕ
    term_cut x i = cond (leb (get_or v.k i 0) (get_or s.causes_left i 0))
        (occurs x (uncut v cut i)) 0

    sums : (x : ℕ) → supports v cut s.causes_left x
        + cond (leb (get_or v.k j 0) (get_or s.causes_left j 0)) (occurs x (uncut v more j)) 0
        ≡ supports v more s.causes_left x
        + cond (leb (get_or v.k j 0) (get_or s.causes_left j 0)) (occurs x (uncut v cut j)) 0
    sums x = sum_below_change (length v.causes)
        (λ i. cond (leb (get_or v.k i 0) (get_or s.causes_left i 0)) (occurs x (uncut v cut i)) 0)
        (λ i. cond (leb (get_or v.k i 0) (get_or s.causes_left i 0)) (occurs x (uncut v more i)) 0)
        j j_in
        (λ i l ne. ap (λ (ys : List ℕ). cond (leb (get_or v.k i 0) (get_or s.causes_left i 0))
        (occurs x ys) 0) (sym (other_row i ne)))

    paying_from : (rest : List ℕ)
        → ((x : ℕ) → x < length v.uses
        → get_or s.support x 0 ≡ supports v more s.causes_left x + occurs x rest)
        → IsPaying v more root rest s s
    paying_from rest f = record {
      moves = moves_self s;
      causes_left = refl;
      effects_left = refl;
      sized = h.exact.sized;
      support = f;
      given = h.given;
      keeps = keeps_self v more root s;
    }

    -- the instance gave e, and gives it no more
    pub gift_lost : get_or v.k j 0 ≤ get_or s.causes_left j 0
        → IsPaying v more root [] s (giver_lost s e root)
    gift_lost enough =
        let t = le-leb (get_or v.k j 0) (get_or s.causes_left j 0) enough in
        paid_one v more root e [] s s h.incidence (λ i i_in. omega (arith, h.exact.causes i i_in))
        e_in
        (paying_from (e ∷ []) (λ x x_in. omega (
          arith,
          h.exact.support x x_in,
          sums x,
          less_count (λ y. eqb y x),
          once,
          occurs-cons x e [],
          ap (λ (m : ℕ). cond (eqb e x) m 0) once,
          cond-true {A = ℕ} (leb (get_or v.k j 0) (get_or s.causes_left j 0))
              (occurs x (uncut v more j)) 0 t,
          cond-true {A = ℕ} (leb (get_or v.k j 0) (get_or s.causes_left j 0))
              (occurs x (uncut v cut j)) 0 t,
        )))

    -- it gave nothing
    pub no_gift : get_or s.causes_left j 0 < get_or v.k j 0 → IsPaying v more root [] s s
    no_gift few =
        let t = lt-leb (get_or v.k j 0) (get_or s.causes_left j 0) few in
        paying_from [] (λ x x_in. omega (
          arith,
          h.exact.support x x_in,
          sums x,
          cond-false {A = ℕ} (leb (get_or v.k j 0) (get_or s.causes_left j 0))
              (occurs x (uncut v more j)) 0 t,
          cond-false {A = ℕ} (leb (get_or v.k j 0) (get_or s.causes_left j 0))
              (occurs x (uncut v cut j)) 0 t,
        ))

    -- what the counters say then; `own` has the instance if its count of effects is one too high
    module _ (over : s.pending ≡ []) (t : SetsValue) (p : IsPaying v more root [] s t) where
      whole : (xs : List ℕ) → weight t xs ≡ count_by (has_mark s.marks) xs
      whole xs = omega (
        arith,
        p.moves.weights xs,
        ap (λ (ps : List ℕ). sum_by (λ y. occurs y xs) ps) over,
      )

      was_whole : (xs : List ℕ) → weight s xs ≡ count_by (has_mark s.marks) xs
      was_whole xs = omega (arith, ap (λ (ps : List ℕ). sum_by (λ y. occurs y xs) ps) over)

      exact_with : (own : List ℕ)
          → occurs j own ≡ cond (has_mark s.marks e) 1 0
          → ((i : ℕ) → i ≢ j → occurs i own ≡ 0) → AreExact v more t [] own
      exact_with own at_j off_j = record {
        sized = p.sized;
        causes = λ i i_in. omega (
          arith,
          ap (λ (xs : List ℕ). get_or xs i 0) p.causes_left,
          h.exact.causes i i_in,
          p.moves.weights (row_at v.causes i),
        );
        effects = λ i i_in. elim (cases_eq i j) [
          | inl same ↦
              let P : ℕ → Type 0 = λ z. get_or t.effects_left z 0
              ≡ weight t (uncut v more z) + occurs z own in
              subst P (sym same) (omega (
                arith,
                ap (λ (xs : List ℕ). get_or xs j 0) p.effects_left,
                h.exact.effects j j_in,
                was_whole (uncut v cut j),
                whole (uncut v more j),
                less_count (has_mark s.marks),
                ap (λ (m : ℕ). cond (has_mark s.marks e) m 0) once,
                at_j,
              ))
          | inr ne ↦ omega (
            arith,
            ap (λ (xs : List ℕ). get_or xs i 0) p.effects_left,
            h.exact.effects i i_in,
            ap (λ (xs : List ℕ). weight s xs) (other_row i ne),
            p.moves.weights (uncut v more i),
            off_j i ne,
          )
        ];
        support = λ x x_in. omega (
          arith,
          p.support x x_in,
          ap (λ (xs : List ℕ). supports v more xs x) p.causes_left,
        );
      }

      still_met : AreMet v t
      still_met = record {
        each = λ i x cause mark. omega (
          arith,
          h.met.each i x cause (p.moves.shrinks x mark),
          ap (λ (xs : List ℕ). get_or xs i 0) p.effects_left,
        );
      }

      pub link_cost : cost v t ≡ cost v s
      link_cost = omega (
        arith,
        p.moves.sums (λ x. 1 + (length (row_at v.uses x) + length (row_at v.gets x))),
        ap (λ (xs : List ℕ). sum_below (length v.causes)
            (λ i. cond (leb (get_or v.k i 0) (get_or xs i 0)) (length (row_at v.effects i)) 0))
            p.causes_left,
        ap (λ (xs : List ℕ). sum_below (length v.causes)
            (λ i. cond (leb (get_or v.n i 0) (get_or xs i 0)) (length (row_at v.causes i)) 0))
            p.effects_left,
      )

      way_paid : IsOnWay v more root s t
      way_paid = record { moves = p.moves; keeps = p.keeps }

      -- e was not in the set
      pub steady_out : has_mark s.marks e ≡ false → IsSteady v more root t
      steady_out away = record {
        incidence = h.incidence;
        exact = exact_with [] (sym (cond-false {A = ℕ} (has_mark s.marks e) 1 0 away))
            (λ i ne. refl);
        given = p.given;
        met = still_met;
      }

      pub way_out : IsOnWay v more root s t
      way_out = way_paid

      -- e was in the set
      module _ (here : has_mark s.marks e ≡ true) where
        pub exact_in : AreExact v more t [] (j ∷ [])
        exact_in = exact_with (j ∷ [])
            (omega (
              arith,
              occurs-cons j j [],
              cond-true {A = ℕ} (eqb j j) 1 0 (eq-eqb j j refl),
              cond-true {A = ℕ} (has_mark s.marks e) 1 0 here,
            ))
            (λ i ne. omega (
              arith,
              occurs-cons i j [],
              cond-false {A = ℕ} (eqb j i) 1 0 (ne_eqb j i (λ q. ne (sym q))),
            ))

        pub effect_there : 0 < get_or t.effects_left j 0
        effect_there = omega (
          arith,
          exact_in.effects j j_in,
          occurs-cons j j [],
          cond-true {A = ℕ} (eqb j j) 1 0 (eq-eqb j j refl),
        )

        steady_more : (get_or t.effects_left j 0 ≡ get_or v.n j 0 → ⊥)
            → IsSteady v more root (one_effect_less t j)
        steady_more ne = record {
          incidence = h.incidence;
          exact = exact_less v more root j [] t h.incidence j_in exact_in t (moves_self t) refl refl
              refl;
          given = given_less v more root j [] t h.incidence j_in exact_in t p.given (moves_self t)
              refl;
          met = met_more v more root j [] t h.incidence j_in exact_in still_met ne;
        }

        steady_left : (u : SetsValue) → CausesLeave v j t u → IsSteady v more root
            (one_effect_less u j)
        steady_left u l = record {
          incidence = h.incidence;
          exact = exact_less v more root j [] t h.incidence j_in exact_in u l.moves l.causes_left
              l.effects_left l.support;
          given = given_less v more root j [] t h.incidence j_in exact_in u p.given l.moves
              l.support;
          met = met_left v more root j [] t h.incidence j_in exact_in u l still_met;
        }

        way_left : (u : SetsValue) → get_or t.effects_left j 0 ≡ get_or v.n j 0
            → CausesLeave v j t u → IsOnWay v more root s (one_effect_less u j)
        way_left u eq l =
            way_on v more root s t (one_effect_less u j) way_paid
            (way_on v more root t u (one_effect_less u j)
            (record {
              moves = l.moves;
              keeps = keeps_left v more root j [] t h.incidence j_in exact_in u l eq;
            })
            (way_same v more root u (one_effect_less u j) refl refl))

        pub steady_in : (x : SetsValue) (m n : ℕ) → EffectLeaves v j t m x n
            → IsSteady v more root x
        steady_in x m n (inl (u, eq, l, is, steps)) =
            let P : SetsValue → Type 0 = λ z. IsSteady v more root z in
            subst P (sym is) (steady_left u l)
        steady_in x m n (inr (ne, is, steps)) =
            let P : SetsValue → Type 0 = λ z. IsSteady v more root z in
            subst P (sym is) (steady_more ne)

        pub way_in : (x : SetsValue) (m n : ℕ) → EffectLeaves v j t m x n → IsOnWay v more root s x
        way_in x m n (inl (u, eq, l, is, steps)) =
            let P : SetsValue → Type 0 = λ z. IsOnWay v more root s z in
            subst P (sym is) (way_left u eq l)
        way_in x m n (inr (ne, is, steps)) =
            let P : SetsValue → Type 0 = λ z. IsOnWay v more root s z in
            subst P (sym is) (way_on v more root s t (one_effect_less t j) way_paid
            (way_same v more root t (one_effect_less t j) refl refl))

        pub cost_in : (x : SetsValue) (m n : ℕ) → EffectLeaves v j t m x n
            → n + cost v x ≡ m + cost v s
        cost_in x m n (inl (u, eq, l, is, steps)) =
            omega (
              arith,
              link_cost,
              steps,
              ap (cost v) is,
              cost_left v more root j [] t h.incidence j_in exact_in u l eq,
            )
        cost_in x m n (inr (ne, is, steps)) =
            omega (
              arith,
              link_cost,
              steps,
              ap (cost v) is,
              cost_more v more root j [] t h.incidence j_in exact_in ne,
            )
