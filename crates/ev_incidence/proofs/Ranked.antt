-- The steps of the search for ranks.
use Rattle.std.proofs.Common.{◌≡◌, ◌≢◌, ◌+◌, ◌-◌, ◌<◌, ◌≤◌, ◌⊎◌, ℕ, zero, suc, Bool}
use Rattle.std.proofs.Common.{true, false, cond, eqb, List, length, get_or, take, set}
use Rattle.std.proofs.Common.{replicate, refl, sym, ap, subst, ◌∙◌, arith, inl, inr}
use Rattle.std.proofs.Common.{get_or-set_same, get_or-set_other}
use Rattle.std.specs.List.{count_by}
use Rattle.std.proofs.lemmas.List.{get_or_past, length-set, length-replicate, get_or-replicate}
use Rattle.std.proofs.lemmas.List.Folds.{list_any_more}
use Rattle.std.proofs.lemmas.List.Sums.{sum_by-set, count_by-le-length}
use Rattle.std.proofs.lemmas.Bool.{cases_lt, cases_eq, cases_Bool, or_cases, or_left, or_right}
use Rattle.std.proofs.lemmas.Bool.{eqb-true, eq-eqb, false≢true, cond-false}
use Rattle.ev_incidence.specs.Sets.{is_member, has_mark}
use Rattle.ev_incidence.specs.Table.{row_at, IncidenceValue, IsIncidence, wiring_of}
use Rattle.ev_incidence.specs.Wiring.{Wiring, IsCauseOf, Chain, HasChain, IsRank, ReachesItself}
use Rattle.ev_incidence.specs.Ranking.{IsMost, IsRanking, ArePlacesStuck, AreNodesStuck}
use Rattle.ev_incidence.specs.Ranking.{AreRanks}
use Rattle.ev_incidence.proofs.Occurrences.{in_at, in_transposed, transposed_in, row_in_range}

-- one number more, whose value is v; n is the greater of it and m
pub most_more : (numbers values : List ℕ) (i m v n : ℕ) → i < length numbers
    → IsMost (take i numbers) values m
    → get_or values (get_or numbers i 0) 0 ≡ v → 0 < v → m ≤ n → v ≤ n → (n ≡ m) ⊎ (n ≡ v)
    → IsMost (take (i + 1) numbers) values n
most_more numbers values i m v n l h v_is some below up which =
    let x = get_or numbers i 0 in
    let split = λ (e : ℕ). list_any_more (λ y. eqb y e) numbers i 0 l in
    record {
      each = λ e p. elim (or_cases (is_member (take i numbers) e) (eqb x e) (sym (split e) ∙ p)) [
        | inl was ↦ let q = h.each e was in (q.0, omega (arith, q.1, below))
        | inr same ↦ let P : ℕ → Type 0 = λ z. (0 < get_or values z 0) × (get_or values z 0 ≤ n) in
            subst P (eqb-true x e same) (omega (arith, v_is, some), omega (arith, v_is, up))
      ];
      top = λ pos. elim which [
        | inl old ↦ let t = h.top (omega (arith, pos, old)) in (
          t.0,
          split t.0 ∙ or_left (is_member (take i numbers) t.0) (eqb x t.0) t.1,
          omega (arith, t.2, old),
        )
        | inr new ↦ (
          x,
          split x ∙ or_right (is_member (take i numbers) x) (eqb x x) (eq-eqb x x refl),
          omega (arith, v_is, new),
        )
      ];
    }

module _ (v : IncidenceValue) where
  pub level_given : (ranks levels : List ℕ) (done place m : ℕ) → IsRanking v ranks levels done
      → place < length levels → get_or levels place 0 ≡ 0
      → IsMost (row_at v.causes place) ranks m → IsRanking v ranks (set levels place m) done
  level_given ranks levels done place m h l none most = record {
    ranks_count = h.ranks_count;
    levels_count = length-set levels place m ∙ h.levels_count;
    node = λ x k e. let q = h.node x k e in record {
      each = λ j p. let r = q.each j p in
          let same = get_or-set_other levels place j m 0 (away levels place j none r.0) in
          (omega (arith, r.0, same), omega (arith, r.1, same));
      top = λ up. let t = q.top up in
          let same = get_or-set_other levels place t.0 m 0
          (away levels place t.0 none (omega (arith, t.2, up))) in
          (t.0, t.1, same ∙ t.2);
    };
    place = λ j pos. elim (cases_eq j place) [
      | inl same ↦
          let now : get_or (set levels place m) j 0 ≡ m =
          let P : ℕ → Type 0 = λ z. get_or (set levels place m) z 0 ≡ m in
          subst P (sym same) (get_or-set_same levels place m 0 l) in
          let P : ℕ → Type 0 = λ z. IsMost (row_at v.causes j) ranks z in
          subst P (sym now) (let Q : ℕ → Type 0 = λ z. IsMost (row_at v.causes z) ranks m in
          subst Q (sym same) most)
      | inr ne ↦
          let now = get_or-set_other levels place j m 0 ne in
          let P : ℕ → Type 0 = λ z. IsMost (row_at v.causes j) ranks z in
          subst P (sym now) (h.place j (omega (arith, pos, now)))
    ];
    left = h.left;
    ranks_below = h.ranks_below;
    levels_below = λ j. elim (cases_eq j place) [
      | inl same ↦ let P : ℕ → Type 0 = λ z. get_or (set levels place m) z 0 ≤ done in
          subst P (sym same) (omega (arith, get_or-set_same levels place m 0 l, most_below))
      | inr ne ↦ omega (arith, get_or-set_other levels place j m 0 ne, h.levels_below j)
    ];
  } where
    away : (rs : List ℕ) (n x : ℕ) → get_or rs n 0 ≡ 0 → 0 < get_or rs x 0 → x ≢ n
    away rs n x z pos e = absurd (omega (arith, z, pos, ap (λ (k : ℕ). get_or rs k 0) e))

    most_below : m ≤ done
    most_below = elim (cases_lt 0 m) [
      | inl pos ↦ let t = most.top pos in omega (arith, t.2, h.ranks_below t.0)
      | inr low ↦ omega (arith, low)
    ]

  -- an instance with a cause whose causes all have ranks has a level
  pub most_positive : (ranks : List ℕ) (place m : ℕ) → 0 < length (row_at v.causes place)
      → IsMost (row_at v.causes place) ranks m → 0 < m
  most_positive ranks place m l h = let q =
      h.each (get_or (row_at v.causes place) 0 0) (in_at (row_at v.causes place) 0 l) in
      omega (arith, q.0, q.1)

  -- all nodes have ranks
  pub ranked_all : (ranks levels : List ℕ) (done : ℕ) → IsIncidence v
      → IsRanking v ranks levels done → ((x : ℕ) → x < length ranks → 0 < get_or ranks x 0)
      → AreRanks v ranks
  ranked_all ranks levels done inc h all = record {
    count = h.ranks_count;
    some = all;
    rises = λ x y c.
        let got = in_transposed v.effects v.gets y c.place inc.gets_is c.effect in
        let y_in : y < length ranks =
        omega (arith, row_in_range v.gets y c.place got, inc.nodes_count, h.ranks_count) in
        let m = get_or ranks y 0 - 1 in
        let y_is : get_or ranks y 0 ≡ suc m = omega (arith, all y y_in) in
        let q = (h.node y m y_is).each c.place got in
        let r = (h.place c.place q.0).each x c.cause in
        omega (arith, q.1, r.1, y_is);
    tight = λ y r e.
        let t = (h.node y (suc r) e).top (omega arith) in
        let s = (h.place t.0 (omega (arith, t.2))).top (omega (arith, t.2)) in (
          s.0,
          record {
            place = t.0;
            cause = s.1;
            effect =
                transposed_in v.effects v.gets y t.0 inc.gets_is t.1;
          },
          s.2 ∙ t.2,
        );
  }

-- chains
pub chain_cons : (w : Wiring) (n p x y : ℕ) → IsCauseOf w p x → Chain w n x y → Chain w (suc n) p y
chain_cons w zero p x y c e = (p, refl, (let P : ℕ → Type 0 = λ z. IsCauseOf w p z in subst P e c))
chain_cons w (suc n) p x y c (z, before, step) = (z, chain_cons w n p x z c before, step)

pub chain_one : (w : Wiring) (p x : ℕ) → IsCauseOf w p x → HasChain w p x
chain_one w p x c = record { steps = 0; chain = (p, refl, c) }

pub chain_more : (w : Wiring) (p x y : ℕ) → IsCauseOf w p x → HasChain w x y → HasChain w p y
chain_more w p x y c h =
    record { steps = suc h.steps; chain = chain_cons w (suc h.steps) p x y c h.chain }

-- where each of some nodes has a cause among them, one of them reaches itself
module _ (w : Wiring) (n : ℕ) (stuck : ℕ → Type 0) (cause : (x : ℕ) → x < n → stuck x → (p : ℕ)
    × (p < n) × stuck p × IsCauseOf w p x) where
  pub cycle_from : (fuel : ℕ) (marks : List Bool) (x : ℕ) → length marks ≡ n → x < n → stuck x
      → has_mark marks x ≡ false
      → ((y : ℕ) → has_mark marks y ≡ true → HasChain w x y) → n ≤ fuel + count_by (λ b. b) marks
      → (z : ℕ) × HasChain w z z
  cycle_from zero marks x size x_in x_stuck clear seen enough =
      absurd (omega (
        arith,
        sum_by-set (λ (b : Bool). cond b 1 0) marks x true false (omega (arith, size, x_in)),
        cond-false {A = ℕ} (get_or marks x false) 1 0 clear,
        count_by-le-length (λ b. b) (set marks x true),
        length-set marks x true,
        size,
        enough,
      ))
  cycle_from (suc fuel) marks x size x_in x_stuck clear seen enough =
      let found = cause x x_in x_stuck in
      let p = found.0 in
      let c = found.3 in
      elim (cases_eq p x) [
        | inl same ↦ (
          x,
          chain_one w x x
              (let P : ℕ → Type 0 = λ z. IsCauseOf w z x in subst P same c),
        )
        | inr ne ↦ elim (cases_Bool (has_mark marks p)) [
          | inl marked ↦ (p, chain_more w p x p c (seen p marked))
          | inr clear2 ↦ cycle_from fuel (set marks x true) p (length-set marks x true ∙ size)
              found.1 found.2
              (get_or-set_other marks x p true false ne ∙ clear2)
              (λ y m. elim (cases_eq y x) [
                | inl e ↦ let P : ℕ → Type 0 = λ z. HasChain w p z in
                    subst P (sym e) (chain_one w p x c)
                | inr away ↦ chain_more w p x y c
                    (seen y (sym (get_or-set_other marks x y true false away) ∙ m))
              ])
              (omega (
                arith,
                enough,
                sum_by-set (λ (b : Bool). cond b 1 0) marks x true false
                    (omega (arith, size, x_in)),
                cond-false {A = ℕ} (get_or marks x false) 1 0 clear,
              ))
        ]
      ]

-- where nothing more can be ranked and some node has no rank, there is a cycle
pub stuck_cycle : (v : IncidenceValue) (ranks levels : List ℕ) (x : ℕ) → IsIncidence v
    → ArePlacesStuck v ranks levels → AreNodesStuck v ranks levels
    → x < length v.uses → get_or ranks x 0 ≡ 0 → ReachesItself (wiring_of v)
stuck_cycle v ranks levels x inc places nodes x_in none =
    let n = length v.uses in
    let free = λ (y : ℕ). elim (cases_lt y n) as (λ _. get_or (replicate n false) y false ≡ false) [
      | inl l ↦ get_or-replicate n y false false l
      | inr past ↦ get_or_past (replicate n false) y false
          (omega (arith, length-replicate n false, past))
    ] in
    let found = cycle_from (wiring_of v) n (λ y. get_or ranks y 0 ≡ 0)
    (λ y y_in y_none.
    let j = nodes.each y y_in y_none in
    let in_j = transposed_in v.effects v.gets y j.number inc.gets_is j.member in
    let j_in : j.number < length v.causes =
    omega (arith, row_in_range v.effects j.number y in_j, inc.effects_count) in
    let c = places.each j.number j_in j.lacks in
    let c_in = row_in_range v.uses c.number j.number
    (in_transposed v.causes v.uses c.number j.number inc.uses_is c.member) in
    (c.number, c_in, c.lacks, record { place = j.number; cause = c.member; effect = in_j }))
    n (replicate n false) x (length-replicate n false) x_in none (free x)
    (λ y m. absurd (false≢true (sym (free y) ∙ m))) (omega arith) in
    record { node = found.0; chain = found.1 }

-- the rank is the length of the longest chains
module _ (v : IncidenceValue) (ranks : List ℕ) (inc : IsIncidence v) (h : AreRanks v ranks) where
  in_range : (x y : ℕ) → IsCauseOf (wiring_of v) x y → x < length ranks
  in_range x y c = omega (
    arith,
    row_in_range v.uses x c.place
        (in_transposed v.causes v.uses x c.place inc.uses_is c.cause),
    h.count,
  )

  no_longer : (n y x : ℕ) → x < length ranks → Chain (wiring_of v) n y x → n < get_or ranks x 0
  no_longer zero y x x_in e = h.some x x_in
  no_longer (suc n) y x x_in (z, before, step) =
      omega (arith, no_longer n y z (in_range z x step) before, h.rises z x step)

  chain_to : (r x : ℕ) → get_or ranks x 0 ≡ suc r → (y : ℕ) × Chain (wiring_of v) r y x
  chain_to zero x e = (x, refl)
  chain_to (suc r) x e =
      let t = h.tight x r e in
      let c = chain_to r t.0 t.2 in
      (c.0, (t.0, c.1, t.1))

  pub rank_is : (x r : ℕ) → x < length ranks → get_or ranks x 0 ≡ suc r → IsRank (wiring_of v) x r
  rank_is x r x_in e = let c = chain_to r x e in
      record {
        from = c.0;
        chain = c.1;
        longest =
            λ n y d. omega (arith, no_longer n y x x_in d, e);
      }
