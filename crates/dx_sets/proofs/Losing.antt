-- Why what leaves may leave, and what the counters say then.
use Rattle.std.proofs.Common.{◌≡◌, ◌≢◌, ◌+◌, ◌-◌, ◌<◌, ◌≤◌, not, ℕ}
use Rattle.std.proofs.Common.{Bool, true, false, cond, eqb, leb, List, [], ◌∷◌, length, get_or}
use Rattle.std.proofs.Common.{take, set, refl, sym, ap, subst, ◌∙◌, arith, inl, inr}
use Rattle.std.proofs.Common.{get_or-set_same, get_or-set_other}
use Rattle.std.specs.List.{count_by, filter}
use Rattle.std.proofs.lemmas.List.{get_or_past, length-set}
use Rattle.std.proofs.lemmas.List.Folds.{list_any_more}
use Rattle.std.proofs.lemmas.Bool.{cases_lt, cases_eq, cases_Bool, and_parts, and_from, or_cases}
use Rattle.std.proofs.lemmas.Bool.{or_parts, eqb-true, eq-eqb, ne_eqb, leb-true, le-leb, lt-leb}
use Rattle.std.proofs.lemmas.Bool.{cond-true, cond-false, false≢true, both_ways}
use Rattle.std.proofs.lemmas.Bool.{not_from_false, not-true}
use Rattle.ev_incidence.specs.Sets.{NodeSet, is_member, has_mark, occurs, IsSubset}
use Rattle.ev_incidence.specs.Table.{row_at, IncidenceValue, IsIncidence}
use Rattle.ev_incidence.proofs.Occurrences.{occurs-cons, occurs_in}
use Rattle.ev_incidence.proofs.Occurrences.{count_within, occurs_filter}
use Rattle.dx_sets.specs.Fit.{IsFit}
use Rattle.dx_sets.specs.Sets.{SetsValue, removed, weight, sum_held, sum_below, Moves}
use Rattle.dx_sets.specs.Engine.{CutsOf, uncut, wiring_cut, supports, AreSized, AreExact, AreGiven}
use Rattle.dx_sets.specs.Engine.{AreMet, KeepsFit, cost, hangs_by_one, left_if_last, giver_lost}
use Rattle.dx_sets.specs.Engine.{IsOwed, IsPaying, HaveLeft, CausesLeave}
use Rattle.dx_sets.proofs.Sums.{sum_below_change, term_le_sum}
use Rattle.dx_sets.proofs.Leaving.{moves_on, moves_same, removed_moves, removed_gone, removed_other}
use Rattle.dx_sets.proofs.Leaving.{removed_causes, removed_effects, removed_support}
use Rattle.dx_sets.proofs.Leaving.{popped_weight, popped_held}

-- members of an uncut row are members of the row
pub uncut_in_range : (v : IncidenceValue) (cut : CutsOf) (j e : ℕ) → IsIncidence v
    → is_member (uncut v cut j) e ≡ true → j < length v.causes
uncut_in_range v cut j e inc h = elim (cases_lt j (length v.causes)) [
  | inl l ↦ l
  | inr past ↦
      let none : row_at v.effects j ≡ [] =
      get_or_past v.effects j [] (omega (arith, past, inc.effects_count)) in
      absurd (false≢true (sym
      (ap (λ (r : List ℕ). is_member (filter (λ x. not (cut j x)) r) e) none)
      ∙ h))
]

-- a fit set within the marks has no member, other than the root, that nothing gives
pub unfit_unsupported : (v : IncidenceValue) (cut : CutsOf) (root : ℕ) (s : SetsValue) (e : ℕ)
    (Y : NodeSet) → IsIncidence v
    → ((j : ℕ) → j < length v.causes → weight s (row_at v.causes j) ≤ get_or s.causes_left j 0)
    → supports v cut s.causes_left e ≡ 0
    → IsFit (wiring_cut v cut) root Y → IsSubset Y (has_mark s.marks) → e ≢ root → Y e ≡ true → ⊥
unfit_unsupported v cut root s e Y inc above none fit within ne here =
    let w = fit.caused e here ne in
    let j = w.place in
    let p = and_parts (is_member (uncut v cut j) e)
    (leb (get_or v.k j 0) (count_by Y (row_at v.causes j))) w.enough in
    let j_in = uncut_in_range v cut j e inc p.0 in
    let enough : get_or v.k j 0 ≤ get_or s.causes_left j 0 =
    omega (
      arith,
      leb-true (get_or v.k j 0) (count_by Y (row_at v.causes j)) p.1,
      count_within Y (has_mark s.marks) (row_at v.causes j) within,
      above j j_in,
    ) in
    omega (
      arith,
      none,
      occurs_in e (uncut v cut j) p.0,
      term_le_sum (length v.causes)
          (λ i. cond (leb (get_or v.k i 0) (get_or s.causes_left i 0)) (occurs e (uncut v cut i)) 0)
          j j_in,
      cond-true {A = ℕ} (leb (get_or v.k j 0) (get_or s.causes_left j 0)) (occurs e (uncut v cut j))
          0 (le-leb (get_or v.k j 0) (get_or s.causes_left j 0) enough),
    )

-- nor one that is a cause of an instance with too few effects
pub unfit_unmet : (v : IncidenceValue) (cut : CutsOf) (root : ℕ) (s : SetsValue) (j x : ℕ)
    (Y : NodeSet)
    → weight s (uncut v cut j) < get_or v.n j 0 → IsFit (wiring_cut v cut) root Y
    → IsSubset Y (has_mark s.marks)
    → is_member (row_at v.causes j) x ≡ true → Y x ≡ true → ⊥
unfit_unmet v cut root s j x Y few fit within cause here =
    elim (or_cases (not (is_member (row_at v.causes j) x))
    (leb (get_or v.n j 0) (count_by Y (uncut v cut j))) ((fit.shown x here).each j)) [
      | inl no_cause ↦ both_ways (is_member (row_at v.causes j) x)
          (not-true (is_member (row_at v.causes j) x) no_cause) cause
      | inr enough ↦ omega (
        arith,
        few,
        leb-true (get_or v.n j 0) (count_by Y (uncut v cut j)) enough,
        count_within Y (has_mark s.marks) (uncut v cut j) within,
      )
    ]

-- keeping
pub keeps_self : (v : IncidenceValue) (cut : CutsOf) (root : ℕ) (s : SetsValue)
    → KeepsFit (wiring_cut v cut) root s s
keeps_self v cut root s = record { keeps = λ Y f h. h }

pub keeps_on : (v : IncidenceValue) (cut : CutsOf) (root : ℕ) (s t u : SetsValue)
    → KeepsFit (wiring_cut v cut) root s t
    → KeepsFit (wiring_cut v cut) root t u → KeepsFit (wiring_cut v cut) root s u
keeps_on v cut root s t u a b = record { keeps = λ Y f h. b.keeps Y f (a.keeps Y f h) }

pub keeps_removed : (v : IncidenceValue) (cut : CutsOf) (root : ℕ) (s : SetsValue) (e : ℕ)
    → ((Y : NodeSet) → IsFit (wiring_cut v cut) root Y → IsSubset Y (has_mark s.marks) → Y e ≡ true
    → ⊥) → KeepsFit (wiring_cut v cut) root s (removed s e)
keeps_removed v cut root s e away = record {
  keeps = λ Y f h x y. elim (cases_eq x e) [
    | inl same ↦ absurd (away Y f h (ap Y (sym same) ∙ y))
    | inr ne ↦ removed_other s e x ne ∙ h x y
  ];
}

-- the counters when a node leaves
pub last_moves : (s : SetsValue) (e root : ℕ) → Moves s (left_if_last s e root)
last_moves s e root =
    elim (hangs_by_one s e root) as (λ b. Moves s (cond b (removed s e) s))
    [ true ↦ removed_moves s e | false ↦ moves_same s s refl refl ]

pub last_causes : (s : SetsValue) (e root : ℕ) → (left_if_last s e root).causes_left ≡ s.causes_left
last_causes s e root =
    elim (hangs_by_one s e root) as (λ b. (cond b (removed s e) s).causes_left ≡ s.causes_left)
    [ true ↦ removed_causes s e | false ↦ refl ]

pub last_effects : (s : SetsValue) (e root : ℕ)
    → (left_if_last s e root).effects_left ≡ s.effects_left
last_effects s e root =
    elim (hangs_by_one s e root) as (λ b. (cond b (removed s e) s).effects_left ≡ s.effects_left)
    [ true ↦ removed_effects s e | false ↦ refl ]

pub last_support : (s : SetsValue) (e root : ℕ) → (left_if_last s e root).support ≡ s.support
last_support s e root =
    elim (hangs_by_one s e root) as (λ b. (cond b (removed s e) s).support ≡ s.support)
    [ true ↦ removed_support s e | false ↦ refl ]

-- one effect more is told that the instance gives it no more
pub paid_one : (v : IncidenceValue) (cut : CutsOf) (root e : ℕ) (rest : List ℕ) (s t : SetsValue)
    → IsIncidence v
    → ((j : ℕ) → j < length v.causes → weight s (row_at v.causes j) ≤ get_or s.causes_left j 0)
    → e < length v.uses
    → IsPaying v cut root (e ∷ rest) s t → IsPaying v cut root rest s (giver_lost t e root)
paid_one v cut root e rest s t inc above e_in h =
    let u = left_if_last t e root in
    let sup = last_support t e root in
    let new : (giver_lost t e root).support ≡ set t.support e (get_or t.support e 0 - 1) =
    ap (λ (xs : List ℕ). set xs e (get_or xs e 0 - 1)) sup in
    let in_support : e < length t.support = omega (arith, e_in, h.sized.support) in
    let at_e : get_or (giver_lost t e root).support e 0 ≡ get_or t.support e 0 - 1 =
    ap (λ (xs : List ℕ). get_or xs e 0) new
    ∙ get_or-set_same t.support e (get_or t.support e 0 - 1) 0 in_support in
    let at_other : (x : ℕ) → x ≢ e
    → get_or (giver_lost t e root).support x 0 ≡ get_or t.support x 0 =
    λ x ne. ap (λ (xs : List ℕ). get_or xs x 0) new
    ∙ get_or-set_other t.support e x (get_or t.support e 0 - 1) 0 ne in
    let hit : ◌≡◌ {A = ℕ} (cond (eqb e e) 1 0) 1 = cond-true {A = ℕ} (eqb e e) 1 0
    (eq-eqb e e refl) in
    let some = h.support e e_in in
    let m = moves_on {s = t} {t = u} {u = giver_lost t e root} (last_moves t e root)
    (moves_same u (giver_lost t e root) refl refl) in
    record {
      moves = moves_on {s = s} {t = t} {u = giver_lost t e root} h.moves m;
      causes_left = last_causes t e root ∙ h.causes_left;
      effects_left = last_effects t e root ∙ h.effects_left;
      sized = record {
        marks = m.size ∙ h.sized.marks;
        support = ap length new
            ∙ (length-set t.support e (get_or t.support e 0 - 1) ∙ h.sized.support);
        causes_left = ap length (last_causes t e root) ∙ h.sized.causes_left;
        effects_left = ap length (last_effects t e root) ∙ h.sized.effects_left;
      };
      support = λ x x_in. elim (cases_eq x e) [
        | inl same ↦
            let P : ℕ → Type 0 = λ z. get_or (giver_lost t e root).support z 0
            ≡ supports v cut s.causes_left z + occurs z rest in
            subst P (sym same) (omega (arith, at_e, some, occurs-cons e e rest, hit))
        | inr ne ↦ omega (
          arith,
          at_other x ne,
          h.support x x_in,
          occurs-cons x e rest,
          cond-false {A = ℕ} (eqb e x) 1 0 (ne_eqb e x (λ q. ne (sym q))),
        )
      ];
      given = record {
        each = λ x mark ne. elim (cases_eq x e) [
          | inl same ↦ elim (cases_Bool (hangs_by_one t e root)) [
            | inl hangs ↦
                let off : has_mark u.marks e ≡ false =
                let P : Bool → Type 0 = λ b. has_mark (cond b (removed t e) t).marks e ≡ false in
                subst P (sym hangs) (removed_gone t e) in
                absurd (both_ways (has_mark u.marks e) off
                (let P : ℕ → Type 0 = λ z. has_mark u.marks z ≡ true in subst P same mark))
            | inr more ↦
                let not_root : not (eqb e root) ≡ true =
                not_from_false (eqb e root) (ne_eqb e root (λ q. ne (same ∙ q))) in
                let not_one : get_or t.support e 0 ≡ 1
                → ⊥ = λ one. both_ways (hangs_by_one t e root) more
                (and_from (eqb (get_or t.support e 0) 1) (not (eqb e root))
                (eq-eqb (get_or t.support e 0) 1 one) not_root) in
                let P : ℕ → Type 0 = λ z. 0 < get_or (giver_lost t e root).support z 0 in
                subst P (sym same) (omega (arith, at_e, some, occurs-cons e e rest, hit, not_one))
          ]
          | inr away ↦
              let was = (last_moves t e root).shrinks x mark in
              omega (arith, at_other x away, h.given.each x was ne)
        ];
      };
      keeps = keeps_on v cut root s t (giver_lost t e root) h.keeps
          (record {
            keeps = λ Y f w x y. elim (cases_Bool (hangs_by_one t e root)) [
              | inl hangs ↦
                  let p = and_parts (eqb (get_or t.support e 0) 1) (not (eqb e root)) hangs in
                  let one = eqb-true (get_or t.support e 0) 1 p.0 in
                  let none : supports v cut s.causes_left e ≡ 0 =
                  omega (arith, one, some, occurs-cons e e rest, hit) in
                  let ne : e ≢ root = λ q. both_ways (eqb e root) (not-true (eqb e root) p.1)
                  (eq-eqb e root q) in
                  let back : IsSubset Y (has_mark s.marks) = λ z q. h.moves.shrinks z (w z q) in
                  elim (cases_eq x e) [
                    | inl same ↦ absurd (unfit_unsupported v cut root s e Y inc above none f back ne
                        (ap Y (sym same) ∙ y))
                    | inr away ↦ let P : Bool
                        → Type 0 = λ b. has_mark (cond b (removed t e) t).marks x ≡ true in
                        subst P (sym hangs) (removed_other t e x away ∙ w x y)
                  ]
              | inr stays ↦ let P : Bool
                  → Type 0 = λ b. has_mark (cond b (removed t e) t).marks x ≡ true in
                  subst P (sym stays) (w x y)
            ];
          });
    }

-- one more of some nodes leaves
pub left_more : (xs : List ℕ) (i : ℕ) (s t : SetsValue) → i < length xs → HaveLeft (take i xs) s t
    → HaveLeft (take (i + 1) xs) s (removed t (get_or xs i 0))
left_more xs i s t l h =
    let e = get_or xs i 0 in
    let split = λ (x : ℕ). list_any_more (λ y. eqb y x) xs i 0 l in
    let m = removed_moves t e in
    record {
      moves = moves_on {s = s} {t = t} {u = removed t e} h.moves m;
      causes_left = removed_causes t e ∙ h.causes_left;
      effects_left = removed_effects t e ∙ h.effects_left;
      support = removed_support t e ∙ h.support;
      away = λ x i_in. elim (cases_eq x e) [
        | inl same ↦ let P : ℕ → Type 0 = λ z. has_mark (removed t e).marks z ≡ false in
            subst P (sym same) (removed_gone t e)
        | inr ne ↦ removed_other t e x ne
            ∙ h.away x (elim (or_cases (is_member (take i xs) x) (eqb e x) (sym (split x) ∙ i_in)) [
              | inl was ↦ was
              | inr same ↦ absurd (ne (sym (eqb-true e x same)))
            ])
      ];
      others = λ x here not_in.
          let parts = or_parts (is_member (take i xs) x) (eqb e x) (sym (split x) ∙ not_in) in
          removed_other t e x (λ q. both_ways (eqb e x) parts.1 (eq-eqb e x (sym q)))
          ∙ h.others x here parts.0;
    }

pub left_none : (xs : List ℕ) (s : SetsValue) → HaveLeft (take 0 xs) s s
left_none xs s = record {
  moves = moves_same s s refl refl;
  causes_left = refl;
  effects_left = refl;
  support = refl;
  away = λ x i. absurd (false≢true i);
  others = λ x here i. here;
}

-- an effect that is cut is passed over: here the list that is left is filtered
pub paying_same : (v : IncidenceValue) (cut : CutsOf) (root : ℕ) (xs ys : List ℕ) (s t : SetsValue)
    → xs ≡ ys → IsPaying v cut root xs s t → IsPaying v cut root ys s t
paying_same v cut root xs ys s t e h = let P : List ℕ → Type 0 = λ zs. IsPaying v cut root zs s t in
    subst P e h

pub paying_start : (v : IncidenceValue) (cut : CutsOf) (root place : ℕ) (s : SetsValue)
    → IsOwed v cut place s → AreGiven root s
    → IsPaying v cut root (uncut v cut place) s s
paying_start v cut root place s h g = record {
  moves = moves_same s s refl refl;
  causes_left = refl;
  effects_left = refl;
  sized = h.sized;
  support = h.support;
  given = g;
  keeps = keeps_self v cut root s;
}

-- one cause fewer
abbrev pub cause_lost : SetsValue → ℕ → SetsValue
cause_lost s j = record {
  marks = s.marks;
  pending = s.pending;
  causes_left =
      set s.causes_left j (get_or s.causes_left j 0 - 1);
  effects_left = s.effects_left;
  support =
      s.support;
}

abbrev pub effect_lost : SetsValue → ℕ → SetsValue
effect_lost s j = record {
  marks = s.marks;
  pending = s.pending;
  causes_left =
      s.causes_left;
  effects_left = set s.effects_left j (get_or s.effects_left j 0 - 1);
  support =
      s.support;
}

-- a sum over the instances that have enough, when the number of one falls by one
abbrev pub enough_sum : ℕ → List ℕ → (ℕ → ℕ) → List ℕ → ℕ
enough_sum n need f have = sum_below n (λ j. cond (leb (get_or need j 0) (get_or have j 0)) (f j) 0)

module _ (n : ℕ) (need : List ℕ) (f : ℕ → ℕ) (have : List ℕ) (j : ℕ) (j_in : j < n)
    (inside : j < length have) (some : 0 < get_or have j 0) where
  changed : enough_sum n need f (set have j (get_or have j 0 - 1)) + cond
      (leb (get_or need j 0) (get_or have j 0)) (f j) 0
      ≡ enough_sum n need f have + cond (leb (get_or need j 0) (get_or have j 0 - 1)) (f j) 0
  changed =
      let here = get_or-set_same have j (get_or have j 0 - 1) 0 inside in
      omega (
        arith,
        sum_below_change n
            (λ i. cond (leb (get_or need i 0) (get_or (set have j (get_or have j 0 - 1)) i 0)) (f i)
            0)
            (λ i. cond (leb (get_or need i 0) (get_or have i 0)) (f i) 0) j j_in
            (λ i l ne. ap (λ (x : ℕ). cond (leb (get_or need i 0) x) (f i) 0)
            (get_or-set_other have j i (get_or have j 0 - 1) 0 ne)),
        ap (λ (x : ℕ). cond (leb (get_or need j 0) x) (f j) 0) here,
      )

  pub enough_falls : get_or have j 0 ≡ get_or need j 0
      → enough_sum n need f (set have j (get_or have j 0 - 1)) + f j ≡ enough_sum n need f have
  enough_falls e = omega (
    arith,
    changed,
    cond-true {A = ℕ} (leb (get_or need j 0) (get_or have j 0)) (f j) 0
        (le-leb (get_or need j 0) (get_or have j 0) (omega (arith, e))),
    cond-false {A = ℕ} (leb (get_or need j 0) (get_or have j 0 - 1)) (f j) 0
        (lt-leb (get_or need j 0) (get_or have j 0 - 1) (omega (arith, e, some))),
  )

  pub enough_stays : (get_or have j 0 ≡ get_or need j 0 → ⊥)
      → enough_sum n need f (set have j (get_or have j 0 - 1)) ≡ enough_sum n need f have
  enough_stays ne = elim (cases_lt (get_or have j 0) (get_or need j 0)) [
    | inl few ↦ omega (
      arith,
      changed,
      cond-false {A = ℕ} (leb (get_or need j 0) (get_or have j 0)) (f j) 0
          (lt-leb (get_or need j 0) (get_or have j 0) few),
      cond-false {A = ℕ} (leb (get_or need j 0) (get_or have j 0 - 1)) (f j) 0
          (lt-leb (get_or need j 0) (get_or have j 0 - 1) (omega (arith, few))),
    )
    | inr many ↦ omega (
      arith,
      changed,
      cond-true {A = ℕ} (leb (get_or need j 0) (get_or have j 0)) (f j) 0
          (le-leb (get_or need j 0) (get_or have j 0) many),
      cond-true {A = ℕ} (leb (get_or need j 0) (get_or have j 0 - 1)) (f j) 0
          (le-leb (get_or need j 0) (get_or have j 0 - 1) (omega (arith, many, ne))),
    )
  ]

-- a node that is looked at, and one of the instances that it is a cause of
module _ (v : IncidenceValue) (cut : CutsOf) (root j : ℕ) (rest de : List ℕ) (s : SetsValue)
    (inc : IsIncidence v) (j_in : j < length v.causes)
    (h : AreExact v cut s (j ∷ rest) de) where
  hit : ◌≡◌ {A = ℕ} (cond (eqb j j) 1 0) 1
  hit = cond-true {A = ℕ} (eqb j j) 1 0 (eq-eqb j j refl)

  pub cause_positive : 0 < get_or s.causes_left j 0
  cause_positive = omega (arith, h.causes j j_in, occurs-cons j j rest, hit)

  inside : j < length s.causes_left
  inside = omega (arith, j_in, h.sized.causes_left)

  pub lost_sized : AreSized v (cause_lost s j)
  lost_sized = record {
    marks = h.sized.marks;
    support = h.sized.support;
    causes_left = length-set s.causes_left j (get_or s.causes_left j 0 - 1) ∙ h.sized.causes_left;
    effects_left = h.sized.effects_left;
  }

  lost_causes : (i : ℕ) → i < length v.causes
      → get_or (cause_lost s j).causes_left i 0 ≡ weight s (row_at v.causes i) + occurs i rest
  lost_causes i i_in = elim (cases_eq i j) [
    | inl same ↦
        let P : ℕ → Type 0 = λ z. get_or (cause_lost s j).causes_left z 0
        ≡ weight s (row_at v.causes z) + occurs z rest in
        subst P (sym same) (omega (
          arith,
          get_or-set_same s.causes_left j (get_or s.causes_left j 0 - 1) 0 inside,
          h.causes j j_in,
          occurs-cons j j rest,
          hit,
        ))
    | inr ne ↦ omega (
      arith,
      get_or-set_other s.causes_left j i (get_or s.causes_left j 0 - 1) 0 ne,
      h.causes i i_in,
      occurs-cons i j rest,
      cond-false {A = ℕ} (eqb j i) 1 0 (ne_eqb j i (λ q. ne (sym q))),
    )
  ]

  pub owed_now : get_or s.causes_left j 0 ≡ get_or v.k j 0 → IsOwed v cut j (cause_lost s j)
  owed_now e = record {
    incidence = inc;
    sized = lost_sized;
    above = λ i i_in. omega (arith, lost_causes i i_in);
    support = λ x x_in. omega (
      arith,
      h.support x x_in,
      enough_falls (length v.causes) v.k (λ i. occurs x (uncut v cut i)) s.causes_left j j_in inside
          cause_positive e,
    );
  }

  pub exact_now : (get_or s.causes_left j 0 ≡ get_or v.k j 0 → ⊥)
      → AreExact v cut (cause_lost s j) rest de
  exact_now ne = record {
    sized = lost_sized;
    causes = lost_causes;
    effects = h.effects;
    support = λ x x_in. omega (
      arith,
      h.support x x_in,
      enough_stays (length v.causes) v.k (λ i. occurs x (uncut v cut i)) s.causes_left j j_in inside
          cause_positive ne,
    );
  }

  pub exact_paid : (t : SetsValue) → IsPaying v cut root [] (cause_lost s j) t
      → AreExact v cut t rest de
  exact_paid t p = record {
    sized = p.sized;
    causes = λ i i_in. omega (
      arith,
      ap (λ (xs : List ℕ). get_or xs i 0) p.causes_left,
      lost_causes i i_in,
      p.moves.weights (row_at v.causes i),
    );
    effects = λ i i_in. omega (
      arith,
      ap (λ (xs : List ℕ). get_or xs i 0) p.effects_left,
      h.effects i i_in,
      p.moves.weights (uncut v cut i),
    );
    support = λ x x_in. omega
        (arith, p.support x x_in, ap (λ (xs : List ℕ). supports v cut xs x) p.causes_left);
  }

  pub met_paid : (t : SetsValue) → AreMet v s → IsPaying v cut root [] (cause_lost s j) t
      → AreMet v t
  met_paid t m p = record {
    each =
        λ i x cause mark. omega (
          arith,
          m.each i x cause (p.moves.shrinks x mark),
          ap (λ (xs : List ℕ). get_or xs i 0) p.effects_left,
        );
  }

  pub cost_paid : (t : SetsValue) → get_or s.causes_left j 0 ≡ get_or v.k j 0
      → IsPaying v cut root [] (cause_lost s j) t
      → cost v t + length (row_at v.effects j) ≡ cost v s
  cost_paid t e p = omega (
    arith,
    p.moves.sums (λ x. 1 + (length (row_at v.uses x) + length (row_at v.gets x))),
    ap (λ (xs : List ℕ). enough_sum (length v.causes) v.k (λ i. length (row_at v.effects i)) xs)
        p.causes_left,
    ap (λ (xs : List ℕ). enough_sum (length v.causes) v.n (λ i. length (row_at v.causes i)) xs)
        p.effects_left,
    enough_falls (length v.causes) v.k (λ i. length (row_at v.effects i)) s.causes_left j j_in
        inside cause_positive e,
  )

  pub cost_same : (get_or s.causes_left j 0 ≡ get_or v.k j 0 → ⊥)
      → cost v (cause_lost s j) ≡ cost v s
  cost_same ne = omega (
    arith,
    enough_stays (length v.causes) v.k (λ i. length (row_at v.effects i)) s.causes_left j j_in
        inside cause_positive ne,
  )

-- and one of those that it is an effect of
module _ (v : IncidenceValue) (cut : CutsOf) (root j : ℕ) (rest : List ℕ) (s : SetsValue)
    (inc : IsIncidence v) (j_in : j < length v.causes)
    (h : AreExact v cut s [] (j ∷ rest)) where
  hits : ◌≡◌ {A = ℕ} (cond (eqb j j) 1 0) 1
  hits = cond-true {A = ℕ} (eqb j j) 1 0 (eq-eqb j j refl)

  pub effect_positive : 0 < get_or s.effects_left j 0
  effect_positive = omega (arith, h.effects j j_in, occurs-cons j j rest, hits)

  inside_effects : j < length s.effects_left
  inside_effects = omega (arith, j_in, h.sized.effects_left)

  -- t is s, or s after the causes of j left
  pub exact_less : (t : SetsValue) → Moves s t → t.causes_left ≡ s.causes_left
      → t.effects_left ≡ s.effects_left → t.support ≡ s.support
      → AreExact v cut (effect_lost t j) [] rest
  exact_less t m c d u = record {
    sized = record {
      marks = m.size ∙ h.sized.marks;
      support = ap length u ∙ h.sized.support;
      causes_left = ap length c ∙ h.sized.causes_left;
      effects_left = length-set t.effects_left j (get_or t.effects_left j 0 - 1)
          ∙ (ap length d ∙ h.sized.effects_left);
    };
    causes = λ i i_in. omega (
      arith,
      ap (λ (xs : List ℕ). get_or xs i 0) c,
      h.causes i i_in,
      m.weights (row_at v.causes i),
    );
    effects = λ i i_in.
        let now = ap (λ (xs : List ℕ). get_or (set xs j (get_or xs j 0 - 1)) i 0) d in
        elim (cases_eq i j) [
          | inl same ↦
              let P : ℕ → Type 0 = λ z. get_or (set s.effects_left j
              (get_or s.effects_left j 0 - 1))
              z 0 ≡ weight t (uncut v cut z) + occurs z rest in
              now ∙ subst P (sym same)
              (omega (
                arith,
                get_or-set_same s.effects_left j (get_or s.effects_left j 0 - 1) 0
                    inside_effects,
                h.effects j j_in,
                occurs-cons j j rest,
                hits,
                m.weights (uncut v cut j),
              ))
          | inr ne ↦ omega (
            arith,
            now,
            get_or-set_other s.effects_left j i (get_or s.effects_left j 0 - 1) 0 ne,
            h.effects i i_in,
            occurs-cons i j rest,
            cond-false {A = ℕ} (eqb j i) 1 0 (ne_eqb j i (λ q. ne (sym q))),
            m.weights (uncut v cut i),
          )
        ];
    support = λ x x_in. omega (
      arith,
      ap (λ (xs : List ℕ). get_or xs x 0) u,
      h.support x x_in,
      ap (λ (xs : List ℕ). supports v cut xs x) c,
    );
  }

  pub given_less : (t : SetsValue) → AreGiven root s → Moves s t → t.support ≡ s.support
      → AreGiven root (effect_lost t j)
  given_less t g m u = record {
    each =
        λ x mark ne. omega (
          arith,
          g.each x (m.shrinks x mark) ne,
          ap (λ (xs : List ℕ). get_or xs x 0) u,
        );
  }

  -- enough are left
  pub met_more : AreMet v s → (get_or s.effects_left j 0 ≡ get_or v.n j 0 → ⊥)
      → AreMet v (effect_lost s j)
  met_more m ne = record {
    each = λ i x cause mark. elim (cases_eq i j) [
      | inl same ↦
          let P : ℕ → Type 0 = λ z. get_or v.n z 0 ≤ get_or (effect_lost s j).effects_left z 0 in
          let was : get_or v.n j 0 ≤ get_or s.effects_left j 0 =
          m.each j x (ap (λ (z : ℕ). is_member (row_at v.causes z) x) (sym same) ∙ cause) mark in
          subst P (sym same) (omega (
            arith,
            get_or-set_same s.effects_left j (get_or s.effects_left j 0 - 1) 0
                inside_effects,
            was,
            ne,
          ))
      | inr away ↦ omega (
        arith,
        get_or-set_other s.effects_left j i (get_or s.effects_left j 0 - 1) 0 away,
        m.each i x cause mark,
      )
    ];
  }

  pub cost_more : (get_or s.effects_left j 0 ≡ get_or v.n j 0 → ⊥)
      → cost v (effect_lost s j) ≡ cost v s
  cost_more ne = omega (
    arith,
    enough_stays (length v.causes) v.n (λ i. length (row_at v.causes i)) s.effects_left j j_in
        inside_effects effect_positive ne,
  )

  -- too few are left, and the causes have left
  module _ (t : SetsValue) (l : CausesLeave v j s t) where
    pub met_left : AreMet v s → AreMet v (effect_lost t j)
    met_left m = record {
      each = λ i x cause mark. elim (cases_eq i j) [
        | inl same ↦ absurd (both_ways (has_mark t.marks x)
            (l.away x (ap (λ (z : ℕ). is_member (row_at v.causes z) x) (sym same) ∙ cause)) mark)
        | inr away ↦ omega (
          arith,
          ap (λ (xs : List ℕ). get_or (set xs j (get_or xs j 0 - 1)) i 0) l.effects_left,
          get_or-set_other s.effects_left j i (get_or s.effects_left j 0 - 1) 0 away,
          m.each i x cause (l.moves.shrinks x mark),
        )
      ];
    }

    pub keeps_left : get_or s.effects_left j 0 ≡ get_or v.n j 0
        → KeepsFit (wiring_cut v cut) root s t
    keeps_left e = record {
      keeps =
          λ Y f w x y. elim (cases_Bool (is_member (row_at v.causes j) x)) [
            | inl cause ↦ absurd (unfit_unmet v cut root s j x Y
                (omega (arith, e, h.effects j j_in, occurs-cons j j rest, hits)) f w cause y)
            | inr other ↦ l.others x (w x y) other
          ];
    }

    pub cost_left : get_or s.effects_left j 0 ≡ get_or v.n j 0
        → cost v (effect_lost t j) + length (row_at v.causes j) ≡ cost v s
    cost_left e = omega (
      arith,
      l.moves.sums (λ x. 1 + (length (row_at v.uses x) + length (row_at v.gets x))),
      ap (λ (xs : List ℕ). enough_sum (length v.causes) v.k (λ i. length (row_at v.effects i)) xs)
          l.causes_left,
      ap (λ (xs : List ℕ). enough_sum (length v.causes) v.n (λ i. length (row_at v.causes i))
          (set xs j (get_or xs j 0 - 1))) l.effects_left,
      enough_falls (length v.causes) v.n (λ i. length (row_at v.causes i)) s.effects_left j j_in
          inside_effects effect_positive e,
    )

-- a node comes to be looked at
module _ (v : IncidenceValue) (cut : CutsOf) (node : ℕ) (s t : SetsValue) (inc : IsIncidence v)
    (popped : s ≡ record {
      marks = t.marks;
      pending = node ∷ t.pending;
      causes_left =
          t.causes_left;
      effects_left = t.effects_left;
      support = t.support;
    }) where
  abbrev before : SetsValue
  before = record {
    marks = t.marks;
    pending = node ∷ t.pending;
    causes_left =
        t.causes_left;
    effects_left = t.effects_left;
    support = t.support;
  }

  pub popped_exact : AreExact v cut s [] []
      → AreExact v cut t (row_at v.uses node) (filter (λ j. not (cut j node)) (row_at v.gets node))
  popped_exact g =
      let h : AreExact v cut before [] [] = let P : SetsValue
      → Type 0 = λ u. AreExact v cut u [] [] in subst P popped g in
      record {
        sized = record {
          marks = h.sized.marks;
          support = h.sized.support;
          causes_left =
              h.sized.causes_left;
          effects_left = h.sized.effects_left;
        };
        causes = λ j j_in. omega (
          arith,
          h.causes j j_in,
          popped_weight t node (row_at v.causes j),
          inc.uses_is.each node j,
        );
        effects = λ j j_in. omega (
          arith,
          h.effects j j_in,
          popped_weight t node (uncut v cut j),
          occurs_filter (λ x. not (cut j x)) node (row_at v.effects j),
          occurs_filter (λ i. not (cut i node)) j (row_at v.gets node),
          ap (λ (m : ℕ). cond (not (cut j node)) m 0) (inc.gets_is.each node j),
        );
        support = h.support;
      }

  pub popped_cost : cost v t + (1 + (length (row_at v.uses node) + length (row_at v.gets node)))
      ≡ cost v s
  popped_cost = omega (
    arith,
    popped_held t node (λ x. 1 + (length (row_at v.uses x) + length (row_at v.gets x))),
    ap (cost v) popped,
  )

  pub popped_held_one : sum_held t (λ x. 1) + 1 ≡ sum_held s (λ x. 1)
  popped_held_one = omega
      (arith, popped_held t node (λ x. 1), ap (λ (u : SetsValue). sum_held u (λ x. 1)) popped)
