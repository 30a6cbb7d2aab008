-- What a graph and its incidence are to each other.
use Rattle.std.proofs.Common.{◌≡◌, ◌≢◌, ◌+◌, ◌<◌, ℕ, zero, suc, true, false}
use Rattle.std.proofs.Common.{ltb, leb, List, [], ◌∷◌, map, length, get_or, refl, sym, ap}
use Rattle.std.proofs.Common.{subst, ◌∙◌, arith, inl, inr, Option, Some, None, slice_get}
use Rattle.std.specs.List.{list_all, list_any, HoldsAt}
use Rattle.std.specs.List.Sorted.{IsPartitionPoint, IsNonDecreasingBy}
use Rattle.std.specs.declared.cmp.Ordering.{Ordering}
use Rattle.std.specs.declared.cmp.Ordering.TheVariants.{Less, Equal, Greater}
use Rattle.std.specs.Ordering.{is_lt, ordering_index}
use Rattle.std.specs.Ordering.{ordering_reverse}
use Rattle.std.specs.Cmp.{tied_itself}
use Rattle.std.proofs.lemmas.List.Sorted.{searchable_from_sorted}
use Rattle.std.proofs.lemmas.Option.{slice_get_past, slice_get_cases, same_Some}
use Rattle.std.proofs.lemmas.Bool.{cases_lt, and_parts, or_cases, or_parts, ltb-true, leb-true}
use Rattle.std.proofs.lemmas.Bool.{false≢true, both_ways}
use Rattle.fm_name.specs.Events.{event_cmp, event_cmp_total, event_tie}
use Rattle.fm_name.specs.declared.events.EventName.{EventName}
use Rattle.ev_graph.specs.declared.nodes.Node.{Node}
use Rattle.ev_graph.specs.declared.nodes.EngineSpec.{EngineSpec}
use Rattle.ev_graph.specs.declared.nodes.NodeKind.TheVariants.{Fault, Defect, Upset, Inner, Report}
use Rattle.ev_graph.specs.declared.instances.Instance.{Instance}
use Rattle.ev_graph.specs.declared.fault.GraphFault.TheVariants.{Kinds, Cyclic}
use Rattle.ev_incidence.specs.Sets.{is_member, ascends_by}
use Rattle.ev_graph.specs.Kinds.{is_report_node, is_upset_node, is_report_kind, is_upset_kind}
use Rattle.ev_graph.specs.Kinds.{has_kind}
use Rattle.ev_incidence.specs.Wiring.{Wiring}
use Rattle.ev_graph.specs.Wired.{wiring, causes_if_any, effects_if_any, n_if_any, k_if_any}
use Rattle.ev_incidence.specs.Wiring.{IsCauseOf}
use Rattle.ev_incidence.specs.Wiring.{Chain, HasChain, ReachesItself}
use Rattle.ev_incidence.specs.Table.{row_at, IncidenceValue, IsIncidence, wiring_of}
use Rattle.ev_incidence.specs.Reached.{Trail, IsReach, CanSearch}
use Rattle.ev_incidence.specs.Reached.{MarkedValue}
use Rattle.ev_incidence.specs.Ranking.{HaveCauses, AreRanks}
use Rattle.ev_graph.specs.Lawful.{GraphValue, TripsUpset, AreAllUpsets, are_below, is_in_range}
use Rattle.ev_graph.specs.Lawful.{has_counts, are_counted, keep_kinds, IsNumbered, IsKindred}
use Rattle.ev_graph.specs.Lawful.{IsCountedGraph, IsRefused, IsIncidenceOf, IsBuilt}
use Rattle.ev_graph.specs.Lawful.{is_before_node, name_in, has_engine_limits}
use Rattle.ev_graph.specs.Kinds.{has_limits}
use Rattle.ev_incidence.proofs.Ascending.{rises_by}
use Rattle.ev_incidence.proofs.Occurrences.{in_at, transposed_in, in_transposed, row_in_range}
use Rattle.ev_incidence.proofs.Occurrences.{place_in}

-- the incidence says the same as the instances
row_map : (f : Instance → List ℕ) (g : Option Instance → List ℕ)
    → ((i : Instance) → f i ≡ g (Some i)) → g None ≡ []
    → (is : List Instance) (j : ℕ) → row_at (map f is) j ≡ g (slice_get is j)
row_map f g some none [] j = sym none
row_map f g some none (i ∷ is) zero = some i
row_map f g some none (i ∷ is) (suc j) = row_map f g some none is j

number_map : (f : Instance → ℕ) (g : Option Instance → ℕ) → ((i : Instance) → f i ≡ g (Some i))
    → g None ≡ 0
    → (is : List Instance) (j : ℕ) → get_or (map f is) j 0 ≡ g (slice_get is j)
number_map f g some none [] j = sym none
number_map f g some none (i ∷ is) zero = some i
number_map f g some none (i ∷ is) (suc j) = number_map f g some none is j

pub wiring_same : (count : ℕ) (is : List Instance) (v : IncidenceValue) → IsIncidenceOf count is v
    → wiring_of v ≡ wiring is
wiring_same count is v h =
    let c : (j : ℕ) → row_at v.causes j ≡ causes_if_any (slice_get is j) =
    λ j. ap (λ (rs : List (List ℕ)). row_at rs j) h.causes
    ∙ row_map (λ i. i.causes) causes_if_any (λ i. refl) refl is j in
    let e : (j : ℕ) → row_at v.effects j ≡ effects_if_any (slice_get is j) =
    λ j. ap (λ (rs : List (List ℕ)). row_at rs j) h.effects
    ∙ row_map (λ i. i.effects) effects_if_any (λ i. refl) refl is j in
    let n : (j : ℕ) → get_or v.n j 0 ≡ n_if_any (slice_get is j) =
    λ j. ap (λ (xs : List ℕ). get_or xs j 0) h.n
    ∙ number_map (λ i. i.n) n_if_any (λ i. refl) refl is j in
    let k : (j : ℕ) → get_or v.k j 0 ≡ k_if_any (slice_get is j) =
    λ j. ap (λ (xs : List ℕ). get_or xs j 0) h.k
    ∙ number_map (λ i. i.k) k_if_any (λ i. refl) refl is j in
    λ i. record { causes = λ j. c j i; effects = λ j. e j i; n = λ j. n j i; k = λ j. k j i }

-- numbers in range
pub below_at : (n : ℕ) (xs : List ℕ) (i : ℕ) → are_below n xs ≡ true → i < length xs
    → get_or xs i 0 < n
below_at n [] i h l = absurd (omega (arith, l))
below_at n (x ∷ xs) zero h l = ltb-true x n (and_parts (ltb x n) (are_below n xs) h).0
below_at n (x ∷ xs) (suc i) h l =
    below_at n xs i (and_parts (ltb x n) (are_below n xs) h).1 (omega (arith, l))

pub causes_below : (n : ℕ) (is : List Instance) → list_all (is_in_range n) is ≡ true → (j i : ℕ)
    → i < length (row_at (map (λ i. i.causes) is) j)
    → get_or (row_at (map (λ i. i.causes) is) j) i 0 < n
causes_below n [] h j i l = absurd (omega (arith, l))
causes_below n (x ∷ is) h zero i l =
    let p = and_parts (is_in_range n x) (list_all (is_in_range n) is) h in
    below_at n x.causes i (and_parts (are_below n x.causes) (are_below n x.effects) p.0).0 l
causes_below n (x ∷ is) h (suc j) i l =
    causes_below n is (and_parts (is_in_range n x) (list_all (is_in_range n) is) h).1 j i l

pub effects_below : (n : ℕ) (is : List Instance) → list_all (is_in_range n) is ≡ true → (j i : ℕ)
    → i < length (row_at (map (λ i. i.effects) is) j)
    → get_or (row_at (map (λ i. i.effects) is) j) i 0 < n
effects_below n [] h j i l = absurd (omega (arith, l))
effects_below n (x ∷ is) h zero i l =
    let p = and_parts (is_in_range n x) (list_all (is_in_range n) is) h in
    below_at n x.effects i (and_parts (are_below n x.causes) (are_below n x.effects) p.0).1 l
effects_below n (x ∷ is) h (suc j) i l =
    effects_below n is (and_parts (is_in_range n x) (list_all (is_in_range n) is) h).1 j i l

-- each instance of a counted graph has a cause
some_cause : (is : List Instance) → list_all has_counts is ≡ true → (j : ℕ) → j < length is
    → 0 < length (row_at (map (λ i. i.causes) is) j)
some_cause [] h j l = absurd (omega (arith, l))
some_cause (x ∷ is) h zero l =
    let p = and_parts (has_counts x) (list_all has_counts is) h in
    let a = and_parts (leb x.n (length x.effects)) _ p.0 in
    let b = and_parts (ltb 0 x.k) _ a.1 in
    let c = and_parts (leb x.k (length x.causes)) _ b.1 in
    omega (arith, ltb-true 0 x.k b.0, leb-true x.k (length x.causes) c.0)
some_cause (x ∷ is) h (suc j) l =
    some_cause is (and_parts (has_counts x) (list_all has_counts is) h).1 j (omega (arith, l))

length_rows : (f : Instance → List ℕ) (is : List Instance) → length (map f is) ≡ length is
length_rows f [] = refl
length_rows f (i ∷ is) = ap suc (length_rows f is)

pub have_causes : (g : GraphValue) (v : IncidenceValue)
    → IsIncidenceOf (length g.nodes) g.instances v → are_counted g ≡ true → HaveCauses v
have_causes g v h counted =
    let a = and_parts (list_all (λ node. has_limits node.kind) g.nodes) _ counted in
    let b = and_parts (list_all has_engine_limits g.engines) _ a.1 in
    record {
      each = λ j l.
          let P : List (List ℕ) → Type 0 = λ rs. 0 < length (row_at rs j) in
          subst P (sym h.causes)
          (some_cause g.instances b.1 j
          (omega (arith, l, ap length h.causes, length_rows (λ i. i.causes) g.instances)));
    }

-- the refusals that need a search, and the graph
module _ (g : GraphValue) (v : IncidenceValue) (h : IsIncidenceOf (length g.nodes) g.instances v)
  where
    pub kinds_refused : IsNumbered g → TripsUpset g.nodes g.engines (wiring_of v)
        → IsRefused Kinds g
    kinds_refused numbered trips = (
      numbered,
      inr (let P : Wiring → Type 0 = λ w. TripsUpset g.nodes g.engines w in
          subst P (wiring_same (length g.nodes) g.instances v h) trips),
    )

    pub is_kindred : IsNumbered g → keep_kinds g ≡ true
        → (TripsUpset g.nodes g.engines (wiring_of v) → ⊥) → IsKindred g
    is_kindred numbered kinds apart = record {
      numbered = numbered;
      kinds = kinds;
      apart = λ t. apart (let P : Wiring → Type 0 = λ w. TripsUpset g.nodes g.engines w in
          subst P (sym (wiring_same (length g.nodes) g.instances v h)) t);
    }

    pub cyclic_refused : IsCountedGraph g → ReachesItself (wiring_of v) → IsRefused Cyclic g
    cyclic_refused counted cycle = (
      counted,
      (let P : Wiring → Type 0 = λ w. ReachesItself w in
          subst P (wiring_same (length g.nodes) g.instances v h) cycle),
    )

    pub is_built : (ranks : List ℕ) → IsCountedGraph g → AreRanks v ranks → IsBuilt g ranks v
    is_built ranks counted ranked = record {
      graph = record {
        counted = counted;
        rank = λ x. get_or ranks x 0;
        rises = λ x y c. ranked.rises x y (let P : Wiring → Type 0 = λ w. IsCauseOf w x y in
            subst P (sym (wiring_same (length g.nodes) g.instances v h)) c);
      };
      table = h;
      ranked = ranked;
    }

-- searches along an incidence
pub can_search_forwards : (v : IncidenceValue) (starts : List ℕ) (nodes places : MarkedValue)
    → IsIncidence v
    → nodes ≡ record { size = length v.uses; items = [] }
    → places ≡ record { size = length v.causes; items = [] }
    → ((i : ℕ) → i < length starts → get_or starts i 0 < length v.uses)
    → CanSearch v.uses v.effects starts nodes places
can_search_forwards v starts nodes places inc n p below = record {
  no_node = ap (λ (m : MarkedValue). m.items) n;
  no_place = ap (λ (m : MarkedValue). m.items) p;
  starts_below = λ i l. omega (arith, below i l, ap (λ (m : MarkedValue). m.size) n);
  index_below = λ e i l.
      let j = get_or (row_at v.uses e) i 0 in
      omega (
        arith,
        row_in_range v.causes j e
            (transposed_in v.causes v.uses e j inc.uses_is (in_at (row_at v.uses e) i l)),
        ap (λ (m : MarkedValue). m.size) p,
      );
  rows_below = λ j i l.
      let e = get_or (row_at v.effects j) i 0 in
      omega (
        arith,
        row_in_range v.gets e j
            (in_transposed v.effects v.gets e j inc.gets_is (in_at (row_at v.effects j) i l)),
        inc.nodes_count,
        ap (λ (m : MarkedValue). m.size) n,
      );
}

trail_chain : (v : IncidenceValue) → IsIncidence v → (n x y : ℕ) → Trail v.uses v.effects n x y
    → Chain (wiring_of v) n x y
trail_chain v inc zero x y e = e
trail_chain v inc (suc n) x y (z, before, step) = (
  z,
  trail_chain v inc n x z before,
  record {
    place = step.place;
    cause =
        transposed_in v.causes v.uses z step.place inc.uses_is step.out;
    effect = step.into;
  },
)

chain_stays : (v : IncidenceValue) (starts nodes places : List ℕ) → IsIncidence v
    → IsReach v.uses v.effects starts nodes places
    → (n x y : ℕ) → is_member nodes x ≡ true → Chain (wiring_of v) n x y → is_member nodes y ≡ true
chain_stays v starts nodes places inc r zero x y there e = let P : ℕ
    → Type 0 = λ z. is_member nodes z ≡ true in subst P e there
chain_stays v starts nodes places inc r (suc n) x y there (z, before, step) =
    r.into step.place y
    (r.out z step.place (chain_stays v starts nodes places inc r n x z there before)
    (in_transposed v.causes v.uses z step.place inc.uses_is step.cause))
    step.effect

-- no node is an upset and a report
not_both : (o : Option Node) → has_kind is_upset_kind o ≡ true → has_kind is_report_kind o ≡ true
    → ⊥
not_both None u r = false≢true u
not_both (Some n) u r = elim n.kind as (λ k. is_upset_kind k ≡ true → is_report_kind k ≡ true → ⊥) [
  | Fault f t ↦ λ a b. false≢true a
  | Defect f t ↦ λ a b. false≢true a
  | Upset e ↦ λ a b. false≢true b
  | Inner ↦ λ a b. false≢true a
  | Report w ↦ λ a b. false≢true a
] u r

pub upset_in_range : (nodes : List Node) (e : ℕ) → is_upset_node nodes e ≡ true → e < length nodes
upset_in_range nodes e h = elim (cases_lt e (length nodes)) [
  | inl l ↦ l
  | inr past ↦ absurd (false≢true
      (sym (ap (λ (o : Option Node). has_kind is_upset_kind o) (slice_get_past nodes e past)) ∙ h))
]

-- trips that are reached
some_engine : (xs : List ℕ) (es : List EngineSpec)
    → list_any (λ engine. is_member xs engine.trip) es ≡ true
    → (at : ℕ) × (engine : EngineSpec) × (slice_get es at ≡ Some engine)
    × (is_member xs engine.trip ≡ true)
some_engine xs [] h = absurd (false≢true h)
some_engine xs (e ∷ es) h =
    elim (or_cases (is_member xs e.trip) (list_any (λ engine. is_member xs engine.trip) es) h) [
      | inl here ↦ (0, e, refl, here)
      | inr more ↦ let p = some_engine xs es more in (suc p.0, p.1, p.2, p.3)
    ]

no_engine : (xs : List ℕ) (es : List EngineSpec) (at : ℕ) (engine : EngineSpec)
    → list_any (λ engine. is_member xs engine.trip) es ≡ false
    → slice_get es at ≡ Some engine → is_member xs engine.trip ≡ true → ⊥
no_engine xs [] at engine h e i = cc
no_engine xs (x ∷ es) zero engine h e i =
    let p = or_parts (is_member xs x.trip) (list_any (λ engine. is_member xs engine.trip) es) h in
    both_ways (is_member xs x.trip) p.0
    (ap (λ (s : EngineSpec). is_member xs s.trip) (same_Some x engine e)
    ∙ i)
no_engine xs (x ∷ es) (suc at) engine h e i =
    no_engine xs es at engine
    (or_parts (is_member xs x.trip) (list_any (λ engine. is_member xs engine.trip) es) h).1 e i

reports_at : (nodes : List Node) (es : List EngineSpec) (at : ℕ) (engine : EngineSpec)
    → list_all (λ engine. is_report_node nodes engine.trip) es ≡ true
    → slice_get es at ≡ Some engine → is_report_node nodes engine.trip ≡ true
reports_at nodes [] at engine h e = cc
reports_at nodes (x ∷ es) zero engine h e =
    ap (λ (s : EngineSpec). is_report_node nodes s.trip) (sym (same_Some x engine e))
    ∙ (and_parts (is_report_node nodes x.trip) _ h).0
reports_at nodes (x ∷ es) (suc at) engine h e =
    reports_at nodes es at engine (and_parts (is_report_node nodes x.trip) _ h).1 e

module _ (v : IncidenceValue) (nodes : List Node) (engines : List EngineSpec)
    (upsets found places : List ℕ) (inc : IsIncidence v)
    (up : AreAllUpsets nodes upsets) (r : IsReach v.uses v.effects upsets found places) where
  pub upset_trips : list_all (λ engine. is_report_node nodes engine.trip) engines ≡ true
      → list_any (λ engine. is_member found engine.trip) engines ≡ true
      → TripsUpset nodes engines (wiring_of v)
  upset_trips reports h =
      let p = some_engine found engines h in
      let w = r.reached p.1.trip p.3 in
      let s = place_in w.start upsets w.in_starts in
      let is_upset : is_upset_node nodes w.start ≡ true =
      ap (λ (x : ℕ). is_upset_node nodes x) (sym s.2) ∙ up.each s.0 s.1 in
      let report = reports_at nodes engines p.0 p.1 reports p.2 in
      let far = elim w.steps as (λ n. Trail v.uses v.effects n w.start p.1.trip
      → HasChain (wiring_of v) w.start p.1.trip) [
        | zero ↦ λ e. absurd (not_both (slice_get nodes w.start) is_upset
            (ap (λ (x : ℕ). is_report_node nodes x) e ∙ report))
        | suc n ↦ λ t. record { steps = n; chain = trail_chain v inc (suc n) w.start p.1.trip t }
      ] w.trail in
      record {
        upset = w.start;
        at = p.0;
        engine = p.1;
        stands = p.2;
        is_upset = is_upset;
        reached =
            far;
      }

  pub no_upset_trips : list_any (λ engine. is_member found engine.trip) engines ≡ false
      → TripsUpset nodes engines (wiring_of v) → ⊥
  no_upset_trips h t =
      no_engine found engines t.at t.engine h t.stands
      (chain_stays v upsets found places inc r (suc t.reached.steps) t.upset t.engine.trip
      (r.starts_in t.upset (up.all t.upset t.is_upset)) t.reached.chain)

-- names
pub name_found : (nodes : List Node) (name : EventName) (at : ℕ) → at < length nodes
    → HoldsAt (λ node. event_cmp node.name name ≡ Equal) nodes at
    → name_in (slice_get nodes at) ≡ Some name
name_found nodes name at l h = elim (slice_get_cases nodes at).1 [
  | inl (node, within, is, same) ↦
      ap name_in is ∙ ap Some
      (event_tie node.name name (let P : Node → Type 0 = λ x. event_cmp x.name name ≡ Equal in
      subst P same (h node)))
  | inr (past, none) ↦ absurd (omega (arith, past, l))
]

lt_is : (o : Ordering) → is_lt o ≡ true → o ≡ Less
lt_is Less e = refl
lt_is Equal e = cc
lt_is Greater e = cc

not_lt : (o : Ordering) → ordering_reverse o ≡ Less → is_lt o ≡ false
not_lt Less e = cc
not_lt Equal e = refl
not_lt Greater e = refl

before_trans : (a b c : Node) → is_before_node a b ≡ true → is_before_node b c ≡ true
    → is_before_node a c ≡ true
before_trans a b c f g =
    ap is_lt (event_cmp_total.trans a.name b.name c.name (lt_is _ f) (lt_is _ g))

pub names_rise : (nodes : List Node) (name : EventName) → ascends_by is_before_node nodes ≡ true
    → IsNonDecreasingBy (λ node. ordering_index (event_cmp node.name name)) nodes
names_rise nodes name h =
    searchable_from_sorted event_cmp_total (λ (node : Node). node.name) nodes name
    (λ k d low l.
    let up = lt_is _ (rises_by is_before_node before_trans nodes k (k + 1) d h (omega arith) l) in
    not_lt _ (sym (event_cmp_total.antisymm (get_or nodes k d).name (get_or nodes (k + 1) d).name)
    ∙ up))

pub name_missing : (nodes : List Node) (name : EventName) (at : ℕ)
    → IsPartitionPoint (λ node. event_cmp node.name name ≡ Less)
    (λ node. event_cmp node.name name ≡ Greater) nodes at
    → (place : ℕ) → name_in (slice_get nodes place) ≡ Some name → ⊥
name_missing nodes name at h place e = elim (slice_get_cases nodes place).1 [
  | inl (node, within, is, same) ↦
      let n : node.name ≡ name = same_Some node.name name (sym (ap name_in is) ∙ e) in
      let tied : event_cmp node.name name ≡ Equal =
      let P : EventName → Type 0 = λ x. event_cmp node.name x ≡ Equal in
      subst P n (tied_itself event_cmp_total node.name) in
      elim (cases_lt place at) [
        | inl low ↦ let a : event_cmp node.name name ≡ Less = let P : Node
            → Type 0 = λ x. event_cmp x.name name ≡ Less in
            subst P same (h.0 place node (omega arith) low) in cc
        | inr high ↦ let a : event_cmp node.name name ≡ Greater = let P : Node
            → Type 0 = λ x. event_cmp x.name name ≡ Greater in
            subst P same (h.1 place node high within) in cc
      ]
  | inr (past, none) ↦ let n : ◌≡◌ {A = Option EventName} None (Some name) = sym (ap name_in none)
      ∙ e in cc
]
