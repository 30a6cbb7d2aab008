-- What a report that is gone does to the best set.
use Rattle.std.proofs.Common.{◌≡◌, ◌<◌, ◌+◌, not, ℕ, true, false}
use Rattle.std.proofs.Common.{List, []}
use Rattle.std.proofs.Common.{length, ltb, leb, eqb, cond, get_or, refl, sym, ap, ◌∙◌, inl}
use Rattle.std.proofs.Common.{inr, arith}
use Rattle.std.proofs.lemmas.Bool.{both_ways, and_parts, and_from, or_cases}
use Rattle.std.proofs.lemmas.Bool.{or_left, or_right, not-true, not_from_false}
use Rattle.std.proofs.lemmas.Bool.{eq-eqb, ne_eqb, false_from_ne_true}
use Rattle.ev_incidence.specs.Sets.{NodeSet, is_member, has_mark, IsSubset, ascends}
use Rattle.ev_graph.specs.Kinds.{is_report_node}
use Rattle.ev_incidence.specs.Table.{IncidenceValue, row_at}
use Rattle.ev_graph.specs.Lawful.{GraphValue, IsGraph}
use Rattle.dx_sets.specs.Fit.{IsFit}
use Rattle.dx_sets.specs.Sets.{SetsValue, removed, sum_below}
use Rattle.dx_sets.specs.Engine.{CutsOf, IsSteady, SettlesTo, wiring_cut, cost}
use Rattle.dx_sets.proofs.Leaving.{removed_moves, removed_gone, removed_other, removed_causes}
use Rattle.dx_sets.proofs.Leaving.{removed_effects, removed_support}
use Rattle.dx_sets.proofs.Beginning.{exact_moved, given_moved}
use Rattle.dx_sets.proofs.Filling.{steady_fit}
use Rattle.dx_story.specs.Greatest.{no_other_report}
use Rattle.dx_live.specs.Region.{local, lifted}
use Rattle.dx_live.specs.Live.{LiveOver, root_over, cuts_over, IsLiveOver, IsBestOver}
use Rattle.dx_live.specs.Live.{all_but}
use Rattle.dx_live.proofs.Regions.{lifted_at, lifted_nodes}
use Rattle.dx_live.proofs.Best.{best_on}

-- a steady set of which a member leaves is steady, and costs no more
pub steady_removed : (v : IncidenceValue) (cut : CutsOf) (root e : ℕ) (s : SetsValue)
    → IsSteady v cut root s → IsSteady v cut root (removed s e)
steady_removed v cut root e s h =
    let m = removed_moves s e in
    record {
      incidence = h.incidence;
      exact = exact_moved v cut s (removed s e) h.exact m (removed_causes s e) (removed_effects s e)
          (removed_support s e);
      given = given_moved root s (removed s e) h.given m (removed_support s e);
      met = record {
        each = λ j x cause mark. omega (
          arith,
          h.met.each j x cause (m.shrinks x mark),
          ap (λ (xs : List ℕ). get_or xs j 0) (removed_effects s e),
        );
      };
    }

pub cost_removed : (v : IncidenceValue) (s : SetsValue) (e : ℕ) → cost v (removed s e) ≡ cost v s
cost_removed v s e =
    omega (
      arith,
      (removed_moves s e).sums (λ x. 1 + (length (row_at v.uses x) + length (row_at v.gets x))),
      ap (λ (xs : List ℕ). sum_below (length v.causes)
          (λ j. cond (leb (get_or v.k j 0) (get_or xs j 0)) (length (row_at v.effects j)) 0))
          (removed_causes s e),
      ap (λ (xs : List ℕ). sum_below (length v.causes)
          (λ j. cond (leb (get_or v.n j 0) (get_or xs j 0)) (length (row_at v.causes j)) 0))
          (removed_effects s e),
    )

module _ (g : GraphValue) (graph : IsGraph g) (l : LiveOver) (h : IsLiveOver g l) (gone : ℕ)
    (report : is_report_node g.nodes gone ≡ true) (t : SetsValue)
    (steady : IsSteady l.region.table (cuts_over l) l.here t) (over : t.pending ≡ [])
    (shrinks : IsSubset (has_mark t.marks) (has_mark l.sets.marks))
    (gone_away : lifted l.region.nodes (has_mark t.marks) gone ≡ false)
    (keeps : (Y : NodeSet) → IsFit (wiring_cut l.region.table (cuts_over l)) l.here Y
    → IsSubset Y (has_mark l.sets.marks)
    → IsSubset Y (λ n. not (eqb (get_or l.region.nodes n 0) gone))
    → IsSubset Y (has_mark t.marks)) (allowed : NodeSet) where
  less : IsSubset (no_other_report g.nodes (all_but allowed gone))
      (no_other_report g.nodes allowed)
  less e i = elim (or_cases (not (is_report_node g.nodes e)) (all_but allowed gone e) i) [
    | inl none ↦ or_left (not (is_report_node g.nodes e)) (allowed e) none
    | inr here ↦ or_right (not (is_report_node g.nodes e)) (allowed e)
        (and_parts (allowed e) (not (eqb e gone)) here).0
  ]

  stays : (e : ℕ) → lifted l.region.nodes (has_mark t.marks) e ≡ true
      → no_other_report g.nodes allowed e ≡ true
      → no_other_report g.nodes (all_but allowed gone) e ≡ true
  stays e i a = elim (or_cases (not (is_report_node g.nodes e)) (allowed e) a) [
    | inl none ↦ or_left (not (is_report_node g.nodes e)) (all_but allowed gone e) none
    | inr here ↦ or_right (not (is_report_node g.nodes e)) (all_but allowed gone e)
        (and_from (allowed e) (not (eqb e gone)) here
        (not_from_false (eqb e gone) (ne_eqb e gone (λ same.
        both_ways (lifted l.region.nodes (has_mark t.marks) gone) gone_away
        (ap (lifted l.region.nodes (has_mark t.marks)) (sym same) ∙ i)))))
  ]

  avoids : (Y : NodeSet) → IsSubset Y (no_other_report g.nodes (all_but allowed gone))
      → IsSubset (local l.region.nodes Y) (λ n. not (eqb (get_or l.region.nodes n 0) gone))
  avoids Y within n i =
      let x = get_or l.region.nodes n 0 in
      let y = (and_parts (ltb n (length l.region.nodes)) (Y x) i).1 in
      not_from_false (eqb x gone) (ne_eqb x gone (λ same.
      elim (or_cases (not (is_report_node g.nodes x)) (all_but allowed gone x) (within x y)) [
        | inl none ↦ both_ways (is_report_node g.nodes x)
            (not-true (is_report_node g.nodes x) none) (ap (is_report_node g.nodes) same ∙ report)
        | inr here ↦ both_ways (eqb x gone)
            (not-true (eqb x gone) (and_parts (allowed x) (not (eqb x gone)) here).1)
            (eq-eqb x gone same)
      ]))

  pub shrunk_best : (cut : CutsOf) → IsBestOver g cut allowed l
      → IsBestOver g cut (all_but allowed gone) (record {
        region = l.region;
        sets = t;
        cuts = l.cuts;
        here = l.here;
      })
  shrunk_best cut b = record {
    cuts = b.cuts;
    best = best_on g graph (root_over l) l.here l.region cut (cuts_over l) h.region b.cuts h.here
        refl cut (has_mark l.sets.marks) (has_mark t.marks)
        (λ n. not (eqb (get_or l.region.nodes n 0) gone)) allowed (all_but allowed gone)
        (λ j e c. c) shrinks
        (steady_fit l.region.table (cuts_over l) h.region.incidence l.here t steady over) keeps less
        stays avoids b.best;
  }

-- it stays a live set of its graph
pub shrunk_live : (g : GraphValue) (l : LiveOver) (h : IsLiveOver g l) (t : SetsValue)
    → IsSteady l.region.table (cuts_over l) l.here t → t.pending ≡ []
    → IsLiveOver g (record { region = l.region; sets = t; cuts = l.cuts; here = l.here })
shrunk_live g l h t steady over = record {
  region = h.region;
  here = h.here;
  cuts = h.cuts;
  steady = steady;
  over = over;
  kind = h.kind;
}

-- where the report stands in the part, and has left
module _ (l : LiveOver) (gone at : ℕ) (up : ascends l.region.nodes ≡ true)
    (at_in : at < length l.region.nodes) (at_is : get_or l.region.nodes at 0 ≡ gone)
    (t : SetsValue) (s : SettlesTo l.region.table (cuts_over l) l.here (removed l.sets at) t) where
  pub left_away : lifted l.region.nodes (has_mark t.marks) gone ≡ false
  left_away = false_from_ne_true (lifted l.region.nodes (has_mark t.marks) gone) (λ i.
      both_ways (has_mark (removed l.sets at).marks at) (removed_gone l.sets at)
      (s.shrinks at (sym (lifted_at l.region.nodes (has_mark t.marks) at up at_in)
      ∙ (ap (lifted l.region.nodes (has_mark t.marks)) at_is ∙ i))))

  pub left_keeps : (Y : NodeSet) → IsFit (wiring_cut l.region.table (cuts_over l)) l.here Y
      → IsSubset Y (has_mark l.sets.marks)
      → IsSubset Y (λ n. not (eqb (get_or l.region.nodes n 0) gone))
      → IsSubset Y (has_mark t.marks)
  left_keeps Y f within avoid = s.keeps.keeps Y f (λ x y.
      removed_other l.sets at x (λ same. both_ways (eqb (get_or l.region.nodes x 0) gone)
      (not-true (eqb (get_or l.region.nodes x 0) gone) (avoid x y))
      (eq-eqb (get_or l.region.nodes x 0) gone
      (ap (λ (n : ℕ). get_or l.region.nodes n 0) same ∙ at_is)))
      ∙ within x y)

-- where it does not stand there
pub none_away : (nodes : List ℕ) (Z : NodeSet) (gone : ℕ) → is_member nodes gone ≡ false
    → lifted nodes Z gone ≡ false
none_away nodes Z gone none = false_from_ne_true (lifted nodes Z gone)
    (λ i. both_ways (is_member nodes gone) none (lifted_nodes nodes Z gone i))

pub shrunk_none : (g : GraphValue) (graph : IsGraph g) (l : LiveOver) (h : IsLiveOver g l)
    (gone : ℕ) → is_report_node g.nodes gone ≡ true → is_member l.region.nodes gone ≡ false
    → (cut : CutsOf) (allowed : NodeSet) → IsBestOver g cut allowed l
    → IsBestOver g cut (all_but allowed gone) l
shrunk_none g graph l h gone report none cut allowed b =
    shrunk_best g graph l h gone report l.sets h.steady h.over (λ e i. i)
    (none_away l.region.nodes (has_mark l.sets.marks) gone none) (λ Y f within avoid. within)
    allowed cut b

pub shrunk_some : (g : GraphValue) (graph : IsGraph g) (l : LiveOver) (h : IsLiveOver g l)
    (gone : ℕ) → is_report_node g.nodes gone ≡ true → (at : ℕ) → at < length l.region.nodes
    → get_or l.region.nodes at 0 ≡ gone → (t : SetsValue)
    → IsSteady l.region.table (cuts_over l) l.here t → t.pending ≡ []
    → SettlesTo l.region.table (cuts_over l) l.here (removed l.sets at) t
    → (cut : CutsOf) (allowed : NodeSet) → IsBestOver g cut allowed l
    → IsBestOver g cut (all_but allowed gone)
    (record { region = l.region; sets = t; cuts = l.cuts; here = l.here })
shrunk_some g graph l h gone report at at_in at_is t steady over ends cut allowed b =
    shrunk_best g graph l h gone report t steady over
    (λ e i. (removed_moves l.sets at).shrinks e (ends.shrinks e i))
    (left_away l gone at h.region.nodes_ascend at_in at_is t ends)
    (left_keeps l gone at h.region.nodes_ascend at_in at_is t ends) allowed cut b
