-- What a live set is at first.
use Rattle.std.proofs.Common.{◌≡◌, ◌+◌, ◌*◌, ◌<◌, ◌≤◌, ◌&&◌, ℕ, zero, suc, true}
use Rattle.std.proofs.Common.{false, List}
use Rattle.std.proofs.Common.{[], ◌∷◌, length, get_or, eqb, ltb, slice_get, refl, sym, ap}
use Rattle.std.proofs.Common.{subst, ◌∙◌, arith}
use Rattle.std.proofs.Common.{inl, inr, replicate}
use Rattle.std.specs.List.{list_all}
use Rattle.std.proofs.lemmas.List.{get_or_past, length-replicate}
use Rattle.std.proofs.lemmas.Bool.{cases_lt, cases_eq, and_parts, and_from, and_right, or_left}
use Rattle.std.proofs.lemmas.Bool.{or_right}
use Rattle.std.proofs.lemmas.Bool.{ltb-true, lt-ltb, eq-eqb}
use Rattle.ev_incidence.specs.Sets.{is_member, has_mark, ascends, ascends_by}
use Rattle.ev_graph.specs.Kinds.{is_root_node}
use Rattle.ev_incidence.specs.Wiring.{Wiring}
use Rattle.ev_graph.specs.Wired.{wiring, effects_if_any}
use Rattle.ev_incidence.specs.Table.{row_at, IncidenceValue, wiring_of}
use Rattle.ev_graph.specs.Lawful.{GraphValue, IsGraph, IsIncidenceOf, is_ascending, is_before_node}
use Rattle.ev_graph.specs.Lawful.{is_before_engine, links}
use Rattle.ev_graph.specs.declared.instances.Instance.{Instance}
use Rattle.ev_incidence.proofs.Ascending.{rises}
use Rattle.ev_graph.proofs.Building.{wiring_same}
use Rattle.dx_sets.specs.Sets.{SetsValue}
use Rattle.dx_sets.specs.Engine.{CutsOf, AreSized, AreFilled, IsSteady, SettlesTo, cost}
use Rattle.dx_sets.proofs.Filling.{steady_fit}
use Rattle.dx_live.specs.Region.{RegionValue, nodes_at, IsRegionOf, IsPartOf, IsLocalTable}
use Rattle.dx_live.specs.Region.{AreLocalCuts}
use Rattle.dx_live.specs.Cuts.{mark_place, AreStarts, AreAscending}
use Rattle.dx_live.specs.Live.{LiveOver, root_over, cuts_over, IsLiveOver}
use Rattle.dx_live.specs.Live.{IsBestOver, no_cut, all_allowed, HasEveryFit}
use Rattle.dx_live.proofs.Marking.{filter_ascends}
use Rattle.dx_live.proofs.Best.{best_first}
use Rattle.dx_live.proofs.Costs.{live_bound}

-- an empty set has a place for each node and instance
pub sized_new : (v : IncidenceValue) (n m : ℕ) (s : SetsValue)
    → s ≡ record {
      marks = replicate n false;
      pending = [];
      causes_left = replicate m 0;
      effects_left = replicate m 0;
      support = replicate n 0;
    }
    → n ≡ length v.uses → m ≡ length v.causes → AreSized v s
sized_new v n m s is nodes count = record {
  marks = ap (λ (z : SetsValue). length z.marks) is ∙ (length-replicate n false ∙ nodes);
  support = ap (λ (z : SetsValue). length z.support) is ∙ (length-replicate n 0 ∙ nodes);
  causes_left = ap (λ (z : SetsValue). length z.causes_left) is ∙ (length-replicate m 0 ∙ count);
  effects_left = ap (λ (z : SetsValue). length z.effects_left) is ∙ (length-replicate m 0 ∙ count);
}

-- nothing outside the end is fit, where it began with all nodes
pub whole_end : (v : IncidenceValue) (cut : CutsOf) (here : ℕ) (s t : SetsValue)
    → AreFilled v s → SettlesTo v cut here s t → HasEveryFit v cut here t
whole_end v cut here s t full ends = record {
  every = λ Y f low. ends.keeps.keeps Y f
      (λ e y. full.each e (ltb-true e (length v.uses) (low e y)));
}

-- rows by local numbers ascend
map_back : (nodes ls : List ℕ) → ascends nodes ≡ true
    → ((l : ℕ) → is_member ls l ≡ true → l < length nodes) → ascends (nodes_at nodes ls) ≡ true
    → ascends ls ≡ true
map_back nodes [] up low h = refl
map_back nodes (x ∷ []) up low h = refl
map_back nodes (x ∷ y ∷ ys) up low h =
    let p = and_parts (ltb (get_or nodes x 0) (get_or nodes y 0))
    (ascends (nodes_at nodes (y ∷ ys))) h in
    let less = ltb-true (get_or nodes x 0) (get_or nodes y 0) p.0 in
    let x_in = low x (or_left (eqb x x) (is_member (y ∷ ys) x) (eq-eqb x x refl)) in
    and_from (ltb x y) (ascends (y ∷ ys))
    (elim (cases_lt x y) [
      | inl lt ↦ lt-ltb x y lt
      | inr ge ↦ elim (cases_eq y x) [
        | inl same ↦ absurd (omega (arith, less, ap (λ (z : ℕ). get_or nodes z 0) same))
        | inr ne ↦ absurd (omega (arith, less, rises nodes y x up (omega (arith, ge, ne)) x_in))
      ]
    ])
    (map_back nodes (y ∷ ys) up (λ l i. low l (or_right (eqb x l) (is_member (y ∷ ys) l) i)) p.1)

effects_at : (is : List Instance) → list_all is_ascending is ≡ true → (j : ℕ)
    → ascends (effects_if_any (slice_get is j)) ≡ true
effects_at [] h j = refl
effects_at (x ∷ xs) h zero =
    (and_parts (ascends x.causes) (ascends x.effects)
    (and_parts (is_ascending x) (list_all is_ascending xs) h).0).1
effects_at (x ∷ xs) h (suc j) =
    effects_at xs (and_parts (is_ascending x) (list_all is_ascending xs) h).1 j

pub region_ascends : (g : GraphValue) → IsGraph g → (root : ℕ) (p : RegionValue)
    → IsRegionOf (wiring g.instances) root p → AreAscending p.table.effects
region_ascends g graph root p h = record {
  each = λ t. elim (cases_lt t (length p.places)) [
    | inl low ↦
        let r = h.effects t low in
        let j = get_or p.places t 0 in
        let a = and_parts (ascends_by is_before_node g.nodes)
        (ascends_by is_before_engine g.engines && list_all is_ascending g.instances)
        graph.counted.kindred.numbered.sorted.ascending in
        let b = and_parts (ascends_by is_before_engine g.engines)
        (list_all is_ascending g.instances) a.1 in
        map_back p.nodes (row_at p.table.effects t) h.nodes_ascend r.below
        (ap ascends r.named
        ∙ filter_ascends (is_member p.nodes) (effects_if_any (slice_get g.instances j))
        (effects_at g.instances b.1 j))
    | inr past ↦ ap ascends (get_or_past p.table.effects t []
        (omega (arith, past, h.incidence.effects_count, h.place_count)))
  ];
}

module _ (g : GraphValue) (graph : IsGraph g) (v : IncidenceValue)
    (inc : IsIncidenceOf (length g.nodes) g.instances v) (root : ℕ)
    (kind : is_root_node g.nodes root ≡ true) (l : LiveOver)
    (region : IsRegionOf (wiring_of v) root l.region)
    (starts : AreStarts (length l.region.table.effects) l.region.table.effects l.cuts.starts
    (length l.cuts.marks)) (none : (e : ℕ) → has_mark l.cuts.marks e ≡ false)
    (here_in : l.here < length l.region.nodes) (here_is : root_over l ≡ root)
    (steady : IsSteady l.region.table (cuts_over l) l.here l.sets)
    (over : l.sets.pending ≡ []) where
  region_here : IsRegionOf (wiring g.instances) (root_over l) l.region
  region_here =
      let P : Wiring → Type 0 = λ w. IsRegionOf w root l.region in
      let Q : ℕ → Type 0 = λ r. IsRegionOf (wiring g.instances) r l.region in
      subst Q (sym here_is) (subst P (wiring_same (length g.nodes) g.instances v inc) region)

  pub live_first : IsLiveOver g l
  live_first = record {
    region = region_here;
    here = here_in;
    cuts = record {
      starts = starts;
      ascending = region_ascends g graph (root_over l) l.region region_here;
    };
    steady = steady;
    over = over;
    kind = ap (is_root_node g.nodes) here_is ∙ kind;
  }

  uncut_first : AreLocalCuts l.region no_cut (cuts_over l)
  uncut_first = record {
    each = λ t n t_in i. and_right (is_member (row_at l.region.table.effects t) n)
        (has_mark l.cuts.marks (mark_place l.cuts (row_at l.region.table.effects t) t n))
        (none (mark_place l.cuts (row_at l.region.table.effects t) t n));
  }

  pub best_live : HasEveryFit l.region.table (cuts_over l) l.here l.sets
      → IsBestOver g no_cut all_allowed l
  best_live whole = record {
    cuts = uncut_first;
    best = best_first g graph (root_over l) l.here l.region no_cut (cuts_over l) region_here
        uncut_first here_in refl (has_mark l.sets.marks)
        (ap (is_root_node g.nodes) here_is ∙ kind)
        (steady_fit l.region.table (cuts_over l) region.incidence l.here l.sets steady over)
        (λ Y f low. whole.every Y f (λ n y. ap (λ (m : ℕ). ltb n m) region.node_count ∙ low n y));
  }

  pub cost_first : IsPartOf v l.region
      → IsLocalTable v l.region.nodes l.region.places l.region.table
      → cost l.region.table l.sets ≤ length g.nodes + 2 * links g.instances
  cost_first part local =
      live_bound g v l.region l.sets inc part local region.nodes_ascend region.places_ascend
      steady.exact.sized.marks over
