-- What a checked file comes to over a topology is a graph: no refusal meets it.
use Rattle.std.proofs.Common.{◌≡◌, ◌<◌, ◌≤◌, ◌^◌, ◌+◌, ◌++◌, ◌||◌, ◌==◌, ◌⊎◌, ℕ, zero, suc}
use Rattle.std.proofs.Common.{Bool}
use Rattle.std.proofs.Common.{true, false, not, List, [], ◌∷◌, length, map, filter, slice_get, cond}
use Rattle.std.proofs.Common.{Option, Some, None, refl, sym, ap, ◌∙◌, subst, arith, inl, inr}
use Rattle.std.proofs.Common.{nat_lt, nat_le, unwrap_or}
use Rattle.std.specs.List.{list_all, All}
use Rattle.std.proofs.lemmas.Bool.{false≢true, and_parts, eq-eqb, lt-ltb}
use Rattle.std.proofs.lemmas.Bool.{le-leb, ltb-true}
use Rattle.std.proofs.lemmas.Option.{get_or_from_slice_get, same_Some}
use Rattle.fm_bytes.proofs.Booleans.{and_true}
use Rattle.fm_name.specs.Category.{category_of}
use Rattle.fm_name.specs.Path.{names_of}
use Rattle.fm_name.specs.declared.events.EventName.{EventName}
use Rattle.fm_topo.specs.Topology.{Topology}
use Rattle.ev_tree.specs.Pattern.{Pattern}
use Rattle.ev_tree.specs.declared.tree.Count.{Count}
use Rattle.ev_tree.specs.declared.tree.Count.TheVariants as counts
use Rattle.ev_tree.specs.declared.tree.Declared.{Declared}
use Rattle.ev_ways.specs.Lists.{IsIn, row}
use Rattle.ev_ways.specs.Ways.{Leads, Way}
use Rattle.ev_words.specs.Categories.{is_report, is_side, is_upset}
use Rattle.ev_words.specs.Iterators.{same_name}
use Rattle.ev_check.specs.CheckedFile.{CheckedFile, Linking, view_prop}
use Rattle.ev_check.specs.declared.checked.EventSpec.{EventSpec}
use Rattle.ev_check.specs.declared.checked.SerdSpec.{SerdSpec}
use Rattle.ev_check.specs.Declarations.{declared_number, is_alike, is_declared, name_of}
use Rattle.ev_check.specs.Lawful.{file_events, IsLawfulFile, IsLawfulLinking, IsLawfulPattern}
use Rattle.ev_check.specs.Lawful.{is_vertical_of, linking_causes, linking_effects}
use Rattle.ev_check.specs.Lawful.{pattern_numbers, pattern_subject, spec_event}
use Rattle.ev_join.specs.Tables.{RisesFrom}
use Rattle.ev_graph.specs.Kinds.{has_engine_below, has_kind, has_limits, is_report_kind}
use Rattle.ev_graph.specs.Kinds.{is_report_node, is_root_kind, is_root_node, is_upset_kind}
use Rattle.ev_graph.specs.Lawful.{GraphValue, TripsUpset, are_below, has_counts}
use Rattle.ev_graph.specs.Lawful.{has_engine_limits, is_ascending, is_in_range, keeps_kinds, links}
use Rattle.ev_incidence.specs.Sets.{ascends, ascends_by, is_member}
use Rattle.ev_incidence.specs.Wiring.{Chain, IsCauseOf, ReachesItself}
use Rattle.ev_graph.specs.Wired.{causes_if_any}
use Rattle.ev_graph.specs.Wired.{effects_if_any, wiring}
use Rattle.ev_graph.specs.declared.instances.Instance.{Instance}
use Rattle.ev_graph.specs.declared.nodes.EngineSpec.{EngineSpec}
use Rattle.ev_graph.specs.declared.nodes.Node.{Node}
use Rattle.ev_events.specs.Fits.{fits, has_names}
use Rattle.ev_events.specs.Names.{iterators}
use Rattle.ev_events.proofs.Agreeing.{names_same, same_from}
use Rattle.ev_events.proofs.Grouped.{names_all}
use Rattle.ev_events.proofs.Places.{any_found, first_found, none_is_not, within_is, get_map}
use Rattle.ev_events.specs.Nodes.{ArePlacedEvents, engine_name}
use Rattle.ev_events.specs.Nodes.{node_name}
use Rattle.ev_events.specs.Whole.{IsWholeFile, needs_cause}
use Rattle.ev_events.proofs.Keeping.{all_names}
use Rattle.ev_events.proofs.Wholeness.{alike_class}
use Rattle.ev_events.proofs.Places.{map_there}
use Rattle.ev_inst.specs.Instances.{IsBuildable, instances_of_all}
use Rattle.ev_inst.specs.Gathering.{some_passes}
use Rattle.ev_inst.specs.Outcomes.{count_at_arrow, events_of, instance_of, is_complete, is_dropped}
use Rattle.ev_inst.specs.Outcomes.{is_event_among, is_event_of, is_made, numbers_with}
use Rattle.ev_inst.proofs.Kindred.{kind_facts, node_category, not_report, not_root}
use Rattle.ev_inst.proofs.Kindred.{reports, upsets}
use Rattle.ev_inst.proofs.NodeSets.{numbers_member, numbers_rise}

-- ---- lists
pub all_pass : {X : Type 0} (test : X → Bool) (xs : List X)
    → ((i : ℕ) (x : X) → slice_get xs i ≡ Some x → test x ≡ true) → list_all test xs ≡ true
all_pass test [] h = refl
all_pass test (x ∷ xs) h =
    and_true (test x) (list_all test xs) (h 0 x refl)
    (all_pass test xs (λ i y s. h (suc i) y s))

pub all_at : {X : Type 0} (P : X → Type 0) (xs : List X) (i : ℕ) (x : X) → All P xs
    → slice_get xs i ≡ Some x → P x
all_at P xs i x h s = subst P (get_or_from_slice_get xs i x x s) (h i x (within_is xs i x s))

pub rising_ascends : (low : ℕ) (xs : List ℕ) → RisesFrom low xs → ascends xs ≡ true
rising_ascends low [] h = refl
rising_ascends low (x ∷ []) h = refl
rising_ascends low (x ∷ y ∷ ys) h =
    let up = h.1.0 in
    and_true (nat_lt x y) (ascends_by nat_lt (y ∷ ys)) (lt-ltb x y (omega (arith, up)))
    (rising_ascends (x + 1) (y ∷ ys) h.1)

-- a member is the number of a node that passes
member_at : (xs : List ℕ) (i n : ℕ) → slice_get xs i ≡ Some n → is_member xs n ≡ true
member_at [] i n h = none_is_not n h
member_at (x ∷ xs) zero n h =
    ap (λ (b : Bool). b || is_member xs n) (eq-eqb x n (same_Some x n h))
member_at (x ∷ xs) (suc i) n h = by (x == n) (member_at xs i n h) where
  by : (b : Bool) → is_member xs n ≡ true → (b || is_member xs n) ≡ true
  by true e = refl
  by false e = e

given_node : (test : Node → Bool) (o : Option Node) → some_passes test o ≡ true
    → (node : Node) × (o ≡ Some node) × (test node ≡ true)
given_node test None h = absurd (false≢true h)
given_node test (Some node) h = (node, refl, h)

pub node_of : (test : Node → Bool) (nodes : List Node) (n : ℕ)
    → is_member (numbers_with test 0 nodes) n ≡ true
    → (node : Node) × (slice_get nodes n ≡ Some node) × (test node ≡ true)
node_of test nodes n h =
    given_node test (slice_get nodes n) (sym (numbers_member test nodes n) ∙ h)

-- ---- an instance is that of a candidate
pub append_at : {X : Type 0} (xs ys : List X) (i : ℕ) (x : X) → slice_get (xs ++ ys) i ≡ Some x
    → ((slice_get xs i ≡ Some x) ⊎ ((j : ℕ) × (slice_get ys j ≡ Some x)))
append_at [] ys i x h = inr (i, h)
append_at (z ∷ xs) ys zero x h = inl h
append_at (z ∷ xs) ys (suc i) x h = append_at xs ys i x h

filter_at : {X : Type 0} (p : X → Bool) (xs : List X) (i : ℕ) (x : X)
    → slice_get (filter p xs) i ≡ Some x → p x ≡ true
filter_at p [] i x h = none_is_not x h
filter_at p (y ∷ xs) i x h = by (λ j e. filter_at p xs j x e) (p y) refl i h where
  by : ((j : ℕ) → slice_get (filter p xs) j ≡ Some x → p x ≡ true) → (b : Bool) → p y ≡ b
      → (j : ℕ) → slice_get (cond b (y ∷ filter p xs) (filter p xs)) j ≡ Some x → p x ≡ true
  by again true so zero e = ap p (sym (same_Some y x e)) ∙ so
  by again true so (suc j) e = again j e
  by again false so j e = again j e

pub record Origin (topology : Topology) (nodes : List Node) (ls : List Linking) (i : Instance) :
    Type 0 where
  pub place : ℕ
  pub linking : Linking
  pub binding : List ℕ
  pub stands : slice_get ls place ≡ Some linking
  pub made : is_made topology nodes linking binding ≡ true
  pub is : instance_of topology nodes linking binding ≡ i

origin_at : (topology : Topology) (nodes : List Node) (ls : List Linking)
    (css : List (List (List ℕ))) (n : ℕ) (i : Instance)
    → slice_get (instances_of_all topology nodes ls css) n ≡ Some i → Origin topology nodes ls i
origin_at topology nodes [] css n i h = none_is_not i h
origin_at topology nodes (l ∷ ls) [] n i h = none_is_not i h
origin_at topology nodes (l ∷ ls) (bs ∷ css) n i h =
    elim (append_at (map (instance_of topology nodes l) (filter (is_made topology nodes l) bs))
    (instances_of_all topology nodes ls css) n i h) [
      | inl own ↦
          let b = get_map (instance_of topology nodes l) (filter (is_made topology nodes l) bs) n i
          own in
          record {
            place = 0;
            linking = l;
            binding = b.0;
            stands = refl;
            made = filter_at (is_made topology nodes l) bs n b.0 b.1;
            is = b.2;
          }
      | inr later ↦
          let o = origin_at topology nodes ls css later.0 i later.1 in
          record {
            place = suc o.place;
            linking = o.linking;
            binding = o.binding;
            stands = o.stands;
            made = o.made;
            is = o.is;
          }
    ]

row_at_map : {X : Type 0} (f : X → List ℕ) (xs : List X) (j : ℕ) (x : X)
    → slice_get xs j ≡ Some x → row (map f xs) j ≡ f x
row_at_map f [] j x h = none_is_not x h
row_at_map f (y ∷ ys) zero x h = ap f (same_Some y x h)
row_at_map f (y ∷ ys) (suc j) x h = row_at_map f ys j x h

is_in_more : (x y : ℕ) (xs : List ℕ) → IsIn x xs → IsIn x (y ∷ xs)
is_in_more x y xs h =
    let w = h.within in
    record { place = suc h.place; within = omega (arith, w); stands = h.stands }

in_numbers : (events : List Declared) (qs : List Pattern) (i : ℕ) (q : Pattern) (n : ℕ)
    → slice_get qs i ≡ Some q → declared_number events (pattern_subject q) ≡ Some n
    → IsIn n (pattern_numbers events qs)
in_numbers events [] i q n s h = none_is_not q s
in_numbers events (r ∷ qs) zero q n s h =
    let e : declared_number events (pattern_subject r) ≡ Some n =
    ap (λ (x : Pattern). declared_number events (pattern_subject x)) (same_Some r q s) ∙ h in
    subst (IsIn n) (sym (front e)) (record { place = 0; within = omega arith; stands = refl }) where
      front : declared_number events (pattern_subject r) ≡ Some n
          → pattern_numbers events (r ∷ qs) ≡ n ∷ pattern_numbers events qs
      front e = rw e refl
in_numbers events (r ∷ qs) (suc i) q n s h =
    let later = in_numbers events qs i q n s h in
    by (declared_number events (pattern_subject r)) refl later where
      by : (o : Option ℕ) → declared_number events (pattern_subject r) ≡ o
          → IsIn n (pattern_numbers events qs) → IsIn n (pattern_numbers events (r ∷ qs))
      by None e later =
          let same : pattern_numbers events (r ∷ qs) ≡ pattern_numbers events qs = rw e refl in
          subst (IsIn n) (sym same) later
      by (Some m) e later =
          let same : pattern_numbers events (r ∷ qs) ≡ m ∷ pattern_numbers events qs =
          rw e refl in
          subst (IsIn n) (sym same) (is_in_more n m (pattern_numbers events qs) later)

way_snoc : (causes effects : List (List ℕ)) (n x z y : ℕ) → Way causes effects n x z
    → Leads causes effects z y → Way causes effects (suc n) x y
way_snoc causes effects zero x z y h l =
    (y, subst (λ (u : ℕ). Leads causes effects u y) (sym h) l, refl)
way_snoc causes effects (suc n) x z y h l = (h.0, h.1, way_snoc causes effects n h.0 z y h.2 l)

pub alike_itself : (d : Declared) → is_alike d d ≡ true
alike_itself d =
    and_true (same_name d.class d.class) _ (same_from d.class d.class refl) (all_names d.names)

module _ (f : CheckedFile) (topology : Topology) (whole : IsWholeFile f) (lawful : IsLawfulFile f)
    (nodes : List Node) (engines : List EngineSpec)
    (placed : ArePlacedEvents f topology nodes engines) (css : List (List (List ℕ))) where
  abbrev ls : List Linking
  ls = map view_prop f.props

  abbrev is : List Instance
  is = instances_of_all topology nodes (map view_prop f.props) css

  -- ---- nodes
  record NodeFacts (node : Node) : Type 0 where
    category : category_of node.name.class ≡ Some (node_category node.kind)
    limits : has_limits node.kind ≡ true
    engine : has_engine_below (length engines) node.kind ≡ true

  length_names : (xs : List EngineSpec) → length (map engine_name xs) ≡ length xs
  length_names [] = refl
  length_names (x ∷ xs) = ap suc (length_names xs)

  node_facts : (n : ℕ) (node : Node) → slice_get nodes n ≡ Some node → NodeFacts node
  node_facts n node s =
      let o = placed.nodes_are.each n node s in
      let w = whole.events o.number o.spec o.declared in
      let k = kind_facts f.engines (map engine_name engines) node.name.path o.spec.kind node.kind
      w.limits o.kind in
      record {
        category = ap category_of o.at.class ∙ w.category ∙ ap Some k.category;
        limits = k.limits;
        engine = ap (λ (c : ℕ). has_engine_below c node.kind) (sym (length_names engines))
            ∙ k.engine;
      }

  -- ---- events of patterns
  event_class : (vs : List (List ℕ)) (b : List ℕ) (node : Node) (q : Pattern)
      → is_event_of topology vs b node q ≡ true → node.name.class ≡ q.class
  event_class vs b node q h =
      names_same node.name.class q.class (and_parts (same_name node.name.class q.class) _ h).0

  event_names : (vs : List (List ℕ)) (b : List ℕ) (node : Node) (q : Pattern)
      → is_event_of topology vs b node q ≡ true
      → names_of node.name.path ≡ map name_of q.parts
  event_names vs b node q h =
      let given = (and_parts (same_name node.name.class q.class) _ h).1 in
      let fit = (and_parts (fits vs b q.parts node.name.path) _ given).0 in
      names_all (names_of node.name.path) (map name_of q.parts)
      (and_parts (has_names q.parts node.name.path) _ fit).0

  abbrev subject_at : Node → Declared
  subject_at node = record { class = node.name.class; names = names_of node.name.path }

  abbrev number_if : Option Node → ℕ
  number_if None = 0
  number_if (Some node) = unwrap_or (declared_number (file_events f) (subject_at node)) 0

  -- the number of what is declared of a node
  abbrev number_at : ℕ → ℕ
  number_at n = number_if (slice_get nodes n)

  linking_lawful : (j : ℕ) (l : Linking) → slice_get (map view_prop f.props) j ≡ Some l
      → IsLawfulLinking (file_events f) l
  linking_lawful j l s = all_at (IsLawfulLinking (file_events f)) ls j l lawful.props s

  -- the number of a node that a lawful pattern gives
  pattern_at : (vs : List (List ℕ)) (b : List ℕ) (n : ℕ) (node : Node) (q : Pattern)
      → slice_get nodes n ≡ Some node → is_event_of topology vs b node q ≡ true
      → is_declared (file_events f) (pattern_subject q) ≡ true
      → declared_number (file_events f) (pattern_subject q) ≡ Some (number_at n)
  pattern_at vs b n node q s event declared =
      let any = any_found (is_alike (pattern_subject q)) (file_events f) declared in
      let found = first_found (is_alike (pattern_subject q)) (file_events f) any.0 any.1 any.2
      any.3 in
      let c = event_class vs b node q event in
      let m = event_names vs b node q event in
      let same : subject_at node ≡ pattern_subject q =
      λ i. record { class = c i; names = m i } in
      let number : number_at n ≡ found.place =
      ap number_if s ∙ ap (λ (d : Declared). unwrap_or (declared_number (file_events f) d) 0) same
      ∙ ap (λ (o : Option ℕ). unwrap_or o 0) found.is in
      found.is ∙ ap Some (sym number)

  -- a side of a propagation
  module _ (left : Bool) (l : Linking) (qs : List Pattern)
      (side : All (IsLawfulPattern (file_events f) (is_vertical_of l) left) qs) (b : List ℕ) where
    event_pattern : (n : ℕ)
        → is_member (events_of topology nodes (iterators l) b qs) n ≡ true
        → (node : Node) × (slice_get nodes n ≡ Some node) × (k : ℕ) × (q : Pattern)
        × (slice_get qs k ≡ Some q) × (is_event_of topology (iterators l) b node q ≡ true)
    event_pattern n h =
        let node = node_of (is_event_among topology (iterators l) b qs) nodes n h in
        let found = any_found (is_event_of topology (iterators l) b node.0) qs node.2 in
        (node.0, node.1, found.0, found.1, found.2, found.3)

    numbered : (n : ℕ) → is_member (events_of topology nodes (iterators l) b qs) n ≡ true
        → IsIn (number_at n) (pattern_numbers (file_events f) qs)
    numbered n h =
        let e = event_pattern n h in
        let q = e.3 in
        let law = all_at (IsLawfulPattern (file_events f) (is_vertical_of l) left) qs e.2 q side e.4
        in
        in_numbers (file_events f) qs e.2 q (number_at n) e.4
        (pattern_at (iterators l) b n e.0 q e.1 e.5 law.declared)

    on_side : (n : ℕ) → is_member (events_of topology nodes (iterators l) b qs) n ≡ true
        → (node : Node) × (slice_get nodes n ≡ Some node)
        × (is_side left (Some (node_category node.kind)) ≡ true)
    on_side n h =
        let e = event_pattern n h in
        let q = e.3 in
        let law = all_at (IsLawfulPattern (file_events f) (is_vertical_of l) left) qs e.2 q side e.4
        in
        let facts = node_facts n e.0 e.1 in (
          e.0,
          e.1,
          ap (is_side left) (sym facts.category)
              ∙ ap (λ (c : List ℕ). is_side left (category_of c))
              (event_class (iterators l) b e.0 q e.5) ∙ law.side,
        )

    below : are_below (length nodes) (events_of topology nodes (iterators l) b qs) ≡ true
    below = all_pass (λ e. nat_lt e (length nodes)) (events_of topology nodes (iterators l) b qs)
        (λ i n s.
        let node = node_of (is_event_among topology (iterators l) b qs) nodes n
        (member_at (events_of topology nodes (iterators l) b qs) i n s) in
        lt-ltb n (length nodes) (within_is nodes n node.0 node.1))

    ascending : ascends (events_of topology nodes (iterators l) b qs) ≡ true
    ascending =
        rising_ascends 0 (events_of topology nodes (iterators l) b qs)
        (numbers_rise (is_event_among topology (iterators l) b qs) 0 nodes)

  no_report : (l : Linking) (b : List ℕ) → IsLawfulLinking (file_events f) l
      → list_all (λ e. not (is_report_node nodes e)) (events_of topology nodes
      (iterators l) b l.left)
      ≡ true
  no_report l b law =
      all_pass (λ e. not (is_report_node nodes e)) (events_of topology nodes (iterators l) b l.left)
      (λ i n s.
      let on = on_side true l l.left law.causes b n
      (member_at (events_of topology nodes (iterators l) b l.left) i n s) in
      ap (λ (o : Option Node). not (has_kind is_report_kind o)) on.1
      ∙ ap not (not_report on.0.kind on.2))

  no_root : (l : Linking) (b : List ℕ) → IsLawfulLinking (file_events f) l
      → list_all (λ e. not (is_root_node nodes e)) (events_of topology nodes
      (iterators l) b l.right)
      ≡ true
  no_root l b law =
      all_pass (λ e. not (is_root_node nodes e)) (events_of topology nodes (iterators l) b l.right)
      (λ i n s.
      let on = on_side false l l.right law.effects b n
      (member_at (events_of topology nodes (iterators l) b l.right) i n s) in
      ap (λ (o : Option Node). not (has_kind is_root_kind o)) on.1
      ∙ ap not (not_root on.0.kind on.2))

  -- ---- counts
  some_needed : (k : Count) (all : ℕ) → needs_cause k ≡ true → 0 < all
      → nat_lt 0 (count_at_arrow k all) ≡ true
  some_needed counts.All all h less = lt-ltb 0 all less
  some_needed (counts.Number n) all h less = h

  counted : (l : Linking) (b : List ℕ) → needs_cause l.k ≡ true
      → is_complete (instance_of topology nodes l b) ≡ true
      → has_counts (instance_of topology nodes l b) ≡ true
  counted l b needed whole =
      let i = instance_of topology nodes l b in
      let p = and_parts (nat_lt 0 (length i.effects)) _ whole in
      let q = and_parts (nat_le i.n (length i.effects)) _ p.1 in
      let r = and_parts (nat_lt 0 (length i.causes)) _ q.1 in
      and_true (nat_le i.n (length i.effects)) _ q.0
      (and_true (nat_lt 0 i.k) _
      (some_needed l.k (length i.causes) needed (ltb-true 0 (length i.causes) r.0))
      (and_true (nat_le i.k (length i.causes)) _ r.1 p.0))

  -- ---- each instance
  record InstanceFacts (i : Instance) : Type 0 where
    ascends : is_ascending i ≡ true
    in_range : is_in_range (length nodes) i ≡ true
    kinds : keeps_kinds nodes i ≡ true
    counts_are : has_counts i ≡ true

  instance_facts : (n : ℕ) (i : Instance)
      → slice_get (instances_of_all topology nodes (map view_prop f.props) css) n ≡ Some i
      → InstanceFacts i
  instance_facts n i s =
      let o = origin_at topology nodes (map view_prop f.props) css n i s in
      let l = o.linking in
      let b = o.binding in
      let law = linking_lawful o.place l o.stands in
      let needed = whole.counts_are o.place l o.stands in
      let complete = (and_parts (not (is_dropped topology l b)) _ o.made).1 in
      let facts : InstanceFacts (instance_of topology nodes l b) = record {
        ascends = and_true _ _ (ascending true l l.left law.causes b)
            (ascending false l l.right law.effects b);
        in_range = and_true _ _ (below true l l.left law.causes b)
            (below false l l.right law.effects b);
        kinds = and_true _ _ (no_report l b law) (no_root l b law);
        counts_are = counted l b needed complete;
      } in
      subst InstanceFacts o.is facts

  -- ---- chains
  lead : (x y : ℕ) → IsCauseOf (wiring is) x y
      → Leads (map (linking_causes (file_events f)) (map view_prop f.props))
      (map (linking_effects (file_events f)) (map view_prop f.props)) (number_at x) (number_at y)
  lead x y h = by (slice_get is h.place) refl h.cause h.effect where
    by : (o : Option Instance) → slice_get is h.place ≡ o
        → is_member (causes_if_any (slice_get is h.place)) x ≡ true
        → is_member (effects_if_any (slice_get is h.place)) y ≡ true
        → Leads (map (linking_causes (file_events f)) (map view_prop f.props))
        (map (linking_effects (file_events f)) (map view_prop f.props)) (number_at x) (number_at y)
    by None e c d = absurd (false≢true (rw e at c))
    by (Some i) e c d =
        let o = origin_at topology nodes (map view_prop f.props) css h.place i e in
        let l = o.linking in
        let b = o.binding in
        let law = linking_lawful o.place l o.stands in
        let cause : is_member (events_of topology nodes (iterators l) b l.left) x ≡ true =
        ap (λ (z : Instance). is_member z.causes x) o.is ∙ rw e at c in
        let effect : is_member (events_of topology nodes (iterators l) b l.right) y ≡ true =
        ap (λ (z : Instance). is_member z.effects y) o.is ∙ rw e at d in
        record {
          arrow = o.place;
          cause = subst (IsIn (number_at x))
              (sym (row_at_map (linking_causes (file_events f)) ls o.place l o.stands))
              (numbered true l l.left law.causes b x cause);
          effect = subst (IsIn (number_at y))
              (sym (row_at_map (linking_effects (file_events f)) ls o.place l o.stands))
              (numbered false l l.right law.effects b y effect);
        }

  chain_way : (n x y : ℕ) → Chain (wiring is) n x y
      → Way (map (linking_causes (file_events f)) (map view_prop f.props))
      (map (linking_effects (file_events f)) (map view_prop f.props)) n (number_at x) (number_at y)
  chain_way zero x y h = ap number_at h
  chain_way (suc n) x y h =
      way_snoc (map (linking_causes (file_events f)) ls) (map (linking_effects (file_events f)) ls)
      n (number_at x) (number_at h.0) (number_at y) (chain_way n x h.0 h.1) (lead h.0 y h.2)

  pub acyclic : ReachesItself (wiring is) → ⊥
  acyclic h =
      lawful.acyclic (number_at h.node)
      (h.chain.steps, chain_way (suc h.chain.steps) h.node h.node h.chain.chain)

  -- ---- engines
  record EngineFacts (engine : EngineSpec) : Type 0 where
    below : nat_lt engine.trip (length nodes) ≡ true
    report : is_report_node nodes engine.trip ≡ true
    limits : has_engine_limits engine ≡ true
    spec : SerdSpec
    number : ℕ
    declared : slice_get f.engines number ≡ Some spec
    trip : number_at engine.trip ≡ spec.trip

  limits_are : (engine : EngineSpec) (n t : ℕ) → engine.n ≡ n → engine.t ≡ t → 0 < n → n ≤ 1024
      → 0 < t → t ≤ 2 ^ 60 → has_engine_limits engine ≡ true
  limits_are engine n t e g a b c d =
      and_true (nat_lt 0 engine.n) _ (lt-ltb 0 engine.n (omega (arith, e, a)))
      (and_true (nat_le engine.n 1024) _ (le-leb engine.n 1024 (omega (arith, e, b)))
      (and_true (nat_lt 0 engine.t) _ (lt-ltb 0 engine.t (omega (arith, g, c)))
      (le-leb engine.t (2 ^ 60) (omega (arith, g, d)))))

  engine_facts : (i : ℕ) (engine : EngineSpec) → slice_get engines i ≡ Some engine
      → EngineFacts engine
  engine_facts i engine s =
      let o = placed.engines_are.each i engine s in
      let w = whole.engines o.number o.is.spec o.is.declared in
      let event : w.event ≡ o.is.event = same_Some w.event o.is.event (sym w.trips ∙ o.is.trips) in
      let t = get_map node_name nodes engine.trip
      (record { class = o.is.event.event.class; path = engine.name.path }) o.is.stands in
      let node = t.0 in
      let facts = node_facts engine.trip node t.1 in
      let class : node.name.class ≡ w.event.event.class =
      ap (λ (x : EventName). x.class) t.2
      ∙ ap (λ (x : EventSpec). x.event.class) (sym event) in
      let names : names_of node.name.path ≡ w.event.event.names =
      ap (λ (x : EventName). names_of x.path) t.2 ∙ o.at.named ∙ sym w.names in
      let same : subject_at node ≡ w.event.event =
      λ j. record { class = class j; names = names j } in
      let kind : is_report (Some (node_category node.kind)) ≡ true =
      ap is_report (sym facts.category)
      ∙ ap (λ (c : List ℕ). is_report (category_of c)) class ∙ w.report in
      record {
        below = lt-ltb engine.trip (length nodes) (within_is nodes engine.trip node t.1);
        report = ap (has_kind is_report_kind) t.1 ∙ reports node.kind kind;
        limits = limits_are engine o.is.spec.n o.is.spec.t o.is.n o.is.t w.some_n w.most_n w.some_t
            w.most_t;
        spec = o.is.spec;
        number = o.number;
        declared = o.is.declared;
        trip = ap number_if t.1
            ∙ ap (λ (d : Declared). unwrap_or (declared_number (file_events f) d) 0) same
            ∙ ap (λ (x : Option ℕ). unwrap_or x 0) w.first;
      }

  upset_there : (o : Option Node) → has_kind is_upset_kind o ≡ true
      → (node : Node) × (o ≡ Some node) × (is_upset_kind node.kind ≡ true)
  upset_there None h = absurd (false≢true h)
  upset_there (Some node) h = (node, refl, h)

  apart : TripsUpset nodes engines (wiring is) → ⊥
  apart h =
      let u = upset_there (slice_get nodes h.upset) h.is_upset in
      let node = u.0 in
      let facts = node_facts h.upset node u.1 in
      let o = placed.nodes_are.each h.upset node u.1 in
      let c = o.at.class in
      let m = o.at.named in
      let same : subject_at node ≡ o.spec.event =
      λ i. record { class = c i; names = m i } in
      let found = first_found (is_alike (subject_at node)) (file_events f) o.number o.spec.event
      (map_there spec_event f.events o.number o.spec o.declared)
      (subst (λ (d : Declared). is_alike (subject_at node) d ≡ true) same
      (alike_itself (subject_at node))) in
      let e = get_map spec_event f.events found.place found.item found.stands in
      let class : e.0.event.class ≡ node.name.class =
      ap (λ (d : Declared). d.class) e.2 ∙ alike_class (subject_at node) found.item found.passes in
      let kind : is_upset (category_of e.0.event.class) ≡ true =
      ap (λ (x : List ℕ). is_upset (category_of x)) class ∙ ap is_upset facts.category
      ∙ upsets node.kind u.2 in
      let number : number_at h.upset ≡ found.place =
      ap number_if u.1 ∙ ap (λ (x : Option ℕ). unwrap_or x 0) found.is in
      let engine = engine_facts h.at h.engine h.stands in
      let way = chain_way (suc h.reached.steps) h.upset h.engine.trip h.reached.chain in
      let Ways : ℕ → ℕ → Type 0 = λ x y.
      Way (map (linking_causes (file_events f)) (map view_prop f.props))
      (map (linking_effects (file_events f)) (map view_prop f.props)) (suc h.reached.steps) x y in
      whole.apart found.place engine.number e.0 engine.spec e.1 kind engine.declared (
        h.reached.steps,
        subst (λ (y : ℕ). Ways found.place y) engine.trip
            (subst (λ (x : ℕ). Ways x (number_at h.engine.trip)) number way),
      )

  pub buildable : (value : GraphValue) → value.nodes ≡ nodes → value.engines ≡ engines
      → value.instances ≡ is → links is ≤ 1048576 → IsBuildable value
  buildable value a b c few =
      let same : (record { nodes = nodes; engines = engines; instances = is }) ≡ value =
      λ i. record { nodes = sym a i; engines = sym b i; instances = sym c i } in
      subst IsBuildable same (record {
        counted = record {
          kindred = record {
            numbered = record {
              sorted = record {
                small = record { few_nodes = placed.few_nodes; few_links = few };
                ascending = and_true _ _ placed.nodes_are.ascend
                    (and_true _ _ placed.engines_are.ascend
                    (all_pass is_ascending is (λ n i s. (instance_facts n i s).ascends)));
              };
              in_range = and_true _ _
                  (all_pass (λ (node : Node). has_engine_below (length engines) node.kind) nodes
                  (λ n node s. (node_facts n node s).engine))
                  (and_true _ _
                  (all_pass (λ (engine : EngineSpec). nat_lt engine.trip (length nodes)) engines
                  (λ n engine s. (engine_facts n engine s).below))
                  (all_pass (is_in_range (length nodes)) is
                  (λ n i s. (instance_facts n i s).in_range)));
            };
            kinds = and_true _ _
                (all_pass (λ (engine : EngineSpec). is_report_node nodes engine.trip) engines
                (λ n engine s. (engine_facts n engine s).report))
                (all_pass (keeps_kinds nodes) is (λ n i s. (instance_facts n i s).kinds));
            apart = apart;
          };
          counts = and_true _ _
              (all_pass (λ (node : Node). has_limits node.kind) nodes
              (λ n node s. (node_facts n node s).limits))
              (and_true _ _
              (all_pass has_engine_limits engines (λ n engine s. (engine_facts n engine s).limits))
              (all_pass has_counts is (λ n i s. (instance_facts n i s).counts_are)));
        };
        acyclic = acyclic;
      })
