-- Guards gathered of all instances are those of the graph: just the guarded links, and for each
-- payload just those that it breaks.
use Rattle.std.proofs.Common.{◌≡◌, ◌≤◌, ◌+◌, ◌++◌, ◌&&◌, ◌||◌, ◌==◌, ℕ, zero, suc, Bool, true}
use Rattle.std.proofs.Common.{false, not, cond, List, [], ◌∷◌, length, map, filter, slice_get}
use Rattle.std.proofs.Common.{filter_map, Option, Some, None, refl, sym, ap, ◌∙◌, subst, arith}
use Rattle.std.proofs.Common.{if◌then◌else◌, length-append}
use Rattle.std.specs.List.{list_any, list_all, sum_by}
use Rattle.std.proofs.lemmas.Bool.{false≢true, and_parts}
use Rattle.std.proofs.lemmas.List.Sums.{sum_by-cons}
use Rattle.std.proofs.lemmas.Option.{same_Some}
use Rattle.fm_topo.specs.Topology.{Topology}
use Rattle.ev_tree.specs.Condition.{Condition}
use Rattle.ev_tree.specs.Pattern.{Pattern}
use Rattle.ev_check.specs.CheckedFile.{CheckedFile, view_prop}
use Rattle.ev_expr.specs.declared.settings.Prop.{Prop}
use Rattle.ev_graph.specs.Lawful.{GraphValue, links, links_of}
use Rattle.ev_incidence.specs.Sets.{is_member}
use Rattle.ev_graph.specs.Wired.{effects_if_any, wiring}
use Rattle.ev_graph.specs.declared.instances.Instance.{Instance}
use Rattle.ev_graph.specs.declared.instances.Link.{Link}
use Rattle.ev_graph.specs.declared.nodes.Node.{Node}
use Rattle.ev_events.specs.Names.{iterators}
use Rattle.ev_events.specs.Asking.{condition_names}
use Rattle.ev_events.proofs.Places.{none_is_not, there_is, within_is}
use Rattle.ev_inst.specs.Asked.{AreAllGuards, AreGuardsTo}
use Rattle.ev_guards.specs.Watched.{Asked, Guarded}
use Rattle.ev_inst.specs.Asked.{asked_if, asked_of, guard_if, guards_to}
use Rattle.ev_guards.specs.Watched.{view_guard}
use Rattle.ev_inst.specs.Gathering.{some_passes}
use Rattle.ev_inst.specs.Guarding.{Derivation, are_guards, asks_if, breaks, broken_at, derivations}
use Rattle.ev_inst.specs.Guarding.{guarded_at, guards, holds_with, link_of, links_guarded}
use Rattle.ev_inst.specs.Guarding.{shows_with}
use Rattle.ev_inst.specs.GuardsOf.{AreGuardsOf, IsInstantiated}
use Rattle.ev_guards.specs.Guards.{GuardsValue, broken_by, broken_on, guard_instance, guarded_links}
use Rattle.ev_guards.specs.Guards.{guards_if_any, is_broken, is_guard_of, is_guarded, link_to}
use Rattle.ev_guards.specs.Guards.{links_to}
use Rattle.ev_inst.specs.Instances.{instances_of_all}
use Rattle.ev_inst.specs.Outcomes.{events_of, is_event_among, is_event_of, numbers_with}
use Rattle.ev_guards.specs.declared.guards.Guard.{Guard}
use Rattle.ev_guards.specs.declared.guards.GuardedNode.{GuardedNode}
use Rattle.ev_inst.specs.declared.guarding.AllGuards.{AllGuards}
use Rattle.ev_guards.proofs.Watching.{answer, is_of_instance, guard_any, guarded_instance, is_unmet}
use Rattle.ev_guards.proofs.Watching.{broken_map, watched_link, links_here}
use Rattle.ev_inst.proofs.Deriving.{all_derived, derived, same_candidates}
use Rattle.ev_inst.proofs.NodeSets.{numbers_member}

-- ---- patterns that ask: what shows with a payload is what is answered
module _ {P A : Type 0} (event : P → Bool) (asks : P → Bool) (ask : P → Option A)
    (hold : P → Bool) (reply : A → Bool)
    (fits : (q : P) → asks q ≡ true → (a : A) × (ask q ≡ Some a) × (hold q ≡ reply a)) where
  shown : (qs : List P) → list_all (λ q. if event q then asks q else true) qs ≡ true
      → list_any (λ q. event q && hold q) qs
      ≡ list_any reply (filter_map (λ q. if event q then ask q else None) qs)
  shown [] h = refl
  shown (q ∷ qs) h =
      let p = and_parts (if event q then asks q else true)
      (list_all (λ z. if event z then asks z else true) qs) h in
      by (event q) refl p.0 (shown qs p.1) where
        by : (e : Bool) → event q ≡ e → (if event q then asks q else true) ≡ true
            → list_any (λ z. event z && hold z) qs
            ≡ list_any reply (filter_map (λ z. if event z then ask z else None) qs)
            → list_any (λ z. event z && hold z) (q ∷ qs)
            ≡ list_any reply (filter_map (λ z. if event z then ask z else None) (q ∷ qs))
        by false is own rest = rw is rest
        by true is own rest =
            let f = fits q (rw is at own) in
            let a : A = f.0 in
            let asked : ask q ≡ Some a = f.1 in
            let held : hold q ≡ reply a = f.2 in
            rw (is, asked, held) (ap (λ (b : Bool). reply a || b) rest)

module _ (topology : Topology) (vs : List (List ℕ)) (b : List ℕ) (node : Node)
    (props : List Prop) where
  asks_answers : (q : Pattern) → asks_if q.cond ≡ true → (a : Asked)
      × (asked_if vs b node q q.cond ≡ Some a)
      × (holds_with topology vs b props node q q.cond
      ≡ answer topology node.name.path props a)
  asks_answers q = by q.cond where
    by : (c : Option Condition) → asks_if c ≡ true → (a : Asked)
        × (asked_if vs b node q c ≡ Some a)
        × (holds_with topology vs b props node q c
        ≡ answer topology node.name.path props a)
    by None h = absurd (false≢true h)
    by (Some c) h = (
      record { names = condition_names vs b q.parts node.name.path; condition = c },
      refl,
      refl,
    )

  shown_is : (qs : List Pattern) → are_guards topology vs b qs node ≡ true
      → list_any (shows_with topology vs b props node) qs
      ≡ list_any (answer topology node.name.path props) (asked_of topology vs b node qs)
  shown_is qs h =
      shown (is_event_of topology vs b node) (λ q. asks_if q.cond)
      (λ q. asked_if vs b node q q.cond)
      (λ q. holds_with topology vs b props node q q.cond)
      (answer topology node.name.path props) asks_answers qs h

-- ---- the guards of numbered instances
module _ {D : Type 0} (test : D → Bool) (asked : D → List Asked) where
  views : ℕ → List D → List Guarded
  views at [] = []
  views at (d ∷ ds) =
      (if test d then record { instance = at; asked = asked d } ∷ [] else [])
      ++ views (suc at) ds

  views_any : (i at : ℕ) (ds : List D)
      → list_any (is_of_instance i) (views at ds) ≡ is_member (numbers_with test at ds) i
  unfolding views
  views_any i at [] = refl
  views_any i at (d ∷ ds) = by (test d) refl (views_any i (suc at) ds) where
    by : (e : Bool) → test d ≡ e
        → list_any (is_of_instance i) (views (suc at) ds)
        ≡ is_member (numbers_with test (suc at) ds) i
        → list_any (is_of_instance i) (views at (d ∷ ds))
        ≡ is_member (numbers_with test at (d ∷ ds)) i
    by true is rest = rw is (ap (λ (b : Bool). (at == i) || b) rest)
    by false is rest = rw is rest

  views_filter : (keep : List Asked → Bool) (at : ℕ) (ds : List D)
      → map guarded_instance (filter (λ v. keep v.asked) (views at ds))
      ≡ numbers_with (λ d. test d && keep (asked d)) at ds
  unfolding views
  views_filter keep at [] = refl
  views_filter keep at (d ∷ ds) =
      by (test d) refl (keep (asked d)) refl (views_filter keep (suc at) ds) where
        by : (e : Bool) → test d ≡ e → (k : Bool) → keep (asked d) ≡ k
            → map guarded_instance (filter (λ v. keep v.asked) (views (suc at) ds))
            ≡ numbers_with (λ z. test z && keep (asked z)) (suc at) ds
            → map guarded_instance (filter (λ v. keep v.asked) (views at (d ∷ ds)))
            ≡ numbers_with (λ z. test z && keep (asked z)) at (d ∷ ds)
        by true is true kept rest = rw (is, kept) (ap (λ (xs : List ℕ). at ∷ xs) rest)
        by true is false kept rest = rw (is, kept) rest
        by false is k kept rest = rw is rest

  views_links : (e at : ℕ) (ds : List D) → map (watched_link e) (views at ds)
      ≡ map (link_of e) (numbers_with test at ds)
  unfolding views
  views_links e at [] = refl
  views_links e at (d ∷ ds) = by (test d) refl (views_links e (suc at) ds) where
    by : (b : Bool) → test d ≡ b
        → map (watched_link e) (views (suc at) ds)
        ≡ map (link_of e) (numbers_with test (suc at) ds)
        → map (watched_link e) (views at (d ∷ ds))
        ≡ map (link_of e) (numbers_with test at (d ∷ ds))
    by true is rest = rw is (ap (λ (ls : List Link). link_of e at ∷ ls) rest)
    by false is rest = rw is rest

  views_long : (at : ℕ) (ds : List D)
      → length (views at ds) ≡ length (numbers_with test at ds)
  unfolding views
  views_long at [] = refl
  views_long at (d ∷ ds) = by (test d) refl (views_long (suc at) ds) where
    by : (e : Bool) → test d ≡ e
        → length (views (suc at) ds) ≡ length (numbers_with test (suc at) ds)
        → length (views at (d ∷ ds)) ≡ length (numbers_with test at (d ∷ ds))
    by true is rest = rw is (ap suc rest)
    by false is rest = rw is rest

numbers_same : {D : Type 0} (f g : D → Bool) → ((d : D) → f d ≡ g d) → (at : ℕ) (ds : List D)
    → numbers_with f at ds ≡ numbers_with g at ds
numbers_same f g same at [] = refl
numbers_same f g same at (d ∷ ds) = λ i.
    if same d i then at ∷ numbers_same f g same (suc at) ds i
    else numbers_same f g same (suc at) ds i

module _ (topology : Topology) (node : Node) where
  abbrev asked_at : Derivation → List Asked
  asked_at d = asked_of topology (iterators d.linking) d.binding node d.linking.right

  guards_are_views : (at : ℕ) (ds : List Derivation)
      → guards_to topology node at ds ≡ views (guards topology node) asked_at at ds
  unfolding views
  guards_are_views at [] = refl
  guards_are_views at (d ∷ ds) =
      ap (λ (xs : List Guarded).
      guard_if topology (iterators d.linking) d.binding d.linking.right at node ++ xs)
      (guards_are_views (suc at) ds)

  guarded_is : (ds : List Derivation) (n : GuardedNode)
      → map view_guard n.guards.items ≡ guards_to topology node 0 ds → (i : ℕ)
      → list_any (is_guard_of i) n.guards.items
      ≡ is_member (numbers_with (guards topology node) 0 ds) i
  guarded_is ds n is i =
      guard_any i n.guards.items
      ∙ ap (list_any (is_of_instance i)) (is ∙ guards_are_views 0 ds)
      ∙ views_any (guards topology node) asked_at i 0 ds

  and_same : (a b c : Bool) → (a ≡ true → b ≡ c) → (a && b) ≡ (a && c)
  and_same true b c h = h refl
  and_same false b c h = refl

  breaks_is : (props : List Prop) (d : Derivation)
      → (guards topology node d && is_unmet topology node.name.path props (asked_at d))
      ≡ breaks topology props node d
  breaks_is props d =
      and_same (guards topology node d)
      (is_unmet topology node.name.path props (asked_at d))
      (not (list_any (shows_with topology (iterators d.linking) d.binding props node)
      d.linking.right))
      (λ h. ap not (sym (shown_is topology (iterators d.linking) d.binding node props
      d.linking.right (and_parts (is_event_among topology (iterators d.linking) d.binding
      d.linking.right node) _ h).1)))

  broken_is : (ds : List Derivation) (props : List Prop) (n : GuardedNode)
      → n.path ≡ node.name.path
      → map view_guard n.guards.items ≡ guards_to topology node 0 ds
      → map guard_instance (filter (is_broken topology n.path props) n.guards.items)
      ≡ numbers_with (breaks topology props node) 0 ds
  broken_is ds props n path is =
      broken_map topology n.path props n.guards.items
      ∙ (λ i. map guarded_instance (filter (λ v. is_unmet topology (path i) props v.asked)
      ((is ∙ guards_are_views 0 ds) i)))
      ∙ views_filter (guards topology node) asked_at
      (is_unmet topology node.name.path props) 0 ds
      ∙ numbers_same (λ d. guards topology node d
      && is_unmet topology node.name.path props (asked_at d)) (breaks topology props node)
      (breaks_is props) 0 ds

  guards_long : (ds : List Derivation) (n : GuardedNode)
      → map view_guard n.guards.items ≡ guards_to topology node 0 ds
      → length n.guards.items ≡ length (numbers_with (guards topology node) 0 ds)
  guards_long ds n is =
      sym (mapped_long n.guards.items) ∙ ap length (is ∙ guards_are_views 0 ds)
      ∙ views_long (guards topology node) asked_at 0 ds where
        mapped_long : (gs : List Guard) → length (map view_guard gs) ≡ length gs
        mapped_long [] = refl
        mapped_long (g ∷ gs) = ap suc (mapped_long gs)

  guards_links_at : (ds : List Derivation) (n : GuardedNode) (e : ℕ)
      → map view_guard n.guards.items ≡ guards_to topology node 0 ds
      → map (link_to e) n.guards.items
      ≡ map (link_of e) (numbers_with (guards topology node) 0 ds)
  guards_links_at ds n e is =
      links_here e n.guards.items
      ∙ ap (map (watched_link e)) (is ∙ guards_are_views 0 ds)
      ∙ views_links (guards topology node) asked_at e 0 ds

-- ---- the node at a place
pub there_as : {X Y : Type 0} (xs : List X) (ys : List Y) (i : ℕ) (x : X) → length ys ≡ length xs
    → slice_get xs i ≡ Some x → (y : Y) × (slice_get ys i ≡ Some y)
there_as xs ys i x long s =
    let within = within_is xs i x s in there_is ys i (omega (arith, within, long))

module _ {X Y : Type 0} (xs : List X) (ys : List Y) (i : ℕ) where
  none_as : length ys ≡ length xs → ◌≡◌ {A = Option X} (slice_get xs i) None
      → ◌≡◌ {A = Option Y} (slice_get ys i) None
  none_as long none = by (slice_get ys i) refl where
    by : (o : Option Y) → slice_get ys i ≡ o → ◌≡◌ {A = Option Y} (slice_get ys i) None
    by None e = e
    by (Some y) e =
        let within = within_is ys i y e in
        let there = there_is xs i (omega (arith, within, long)) in
        none_is_not there.0 (sym none ∙ there.1)

module _ (topology : Topology) (nodes : List Node) (ds : List Derivation)
    (gs : List GuardedNode) (are : AreGuardsTo topology nodes ds gs) where
  abbrev value : GuardsValue
  value = record { topology = topology; nodes = gs }

  pub guarded_same : (i e : ℕ) → is_guarded value i e
      ≡ is_member (guarded_at topology ds (slice_get nodes e)) i
  guarded_same i e = by (slice_get nodes e) refl where
    by : (o : Option Node) → slice_get nodes e ≡ o
        → is_guarded value i e ≡ is_member (guarded_at topology ds o) i
    by None none =
        ap (λ (g : Option GuardedNode). list_any (is_guard_of i) (guards_if_any g))
        (none_as nodes gs e are.long none)
    by (Some node) s =
        let n = there_as nodes gs e node are.long s in
        ap (λ (g : Option GuardedNode). list_any (is_guard_of i) (guards_if_any g)) n.1
        ∙ guarded_is topology node ds n.0 (are.each e node n.0 s n.1).1 i

  pub broken_same : (e : ℕ) (props : List Prop) → broken_by value e props
      ≡ broken_at topology ds props (slice_get nodes e)
  broken_same e props = by (slice_get nodes e) refl where
    by : (o : Option Node) → slice_get nodes e ≡ o
        → broken_by value e props ≡ broken_at topology ds props o
    by None none = ap (broken_on topology props) (none_as nodes gs e are.long none)
    by (Some node) s =
        let n = there_as nodes gs e node are.long s in
        let told = are.each e node n.0 s n.1 in
        ap (broken_on topology props) n.1
        ∙ broken_is topology node ds props n.0 told.0 told.1

  -- ---- the links, in order
  links_same : (at : ℕ) (ns : List Node) (hs : List GuardedNode) → length hs ≡ length ns
      → ((e : ℕ) (node : Node) (n : GuardedNode) → slice_get ns e ≡ Some node
      → slice_get hs e ≡ Some n
      → map view_guard n.guards.items ≡ guards_to topology node 0 ds)
      → links_to at hs ≡ links_guarded topology ds at ns
  links_same at [] [] long each = refl
  links_same at [] (h ∷ hs) long each = absurd (omega (arith, long))
  links_same at (node ∷ ns) [] long each = absurd (omega (arith, long))
  links_same at (node ∷ ns) (h ∷ hs) long each =
      let less : length hs ≡ length ns = omega (arith, long) in
      λ i. guards_links_at topology node ds h at (each 0 node h refl refl) i
      ++ links_same (suc at) ns hs less (λ e x n s t. each (suc e) x n s t) i

  pub links_guarded_same : guarded_links value ≡ links_guarded topology ds 0 nodes
  links_guarded_same = links_same 0 nodes gs are.long (λ e node n s t. (are.each e node n s t).1)

  -- ---- how many they are
  links_long : (e : ℕ) (ns : List GuardedNode)
      → length (links_to e ns) ≡ sum_by (λ n. length n.guards.items) ns
  links_long e [] = refl
  links_long e (n ∷ ns) =
      length-append (map (link_to e) n.guards.items) (links_to (suc e) ns)
      ∙ (λ i. mapped_long n.guards.items i + links_long (suc e) ns i)
      ∙ sym (sum_by-cons (λ (m : GuardedNode). length m.guards.items) n ns) where
        mapped_long : (xs : List Guard) → length (map (link_to e) xs) ≡ length xs
        mapped_long [] = refl
        mapped_long (g ∷ xs) = ap suc (mapped_long xs)

  abbrev guards_count : ℕ → List Derivation → Node → ℕ
  guards_count at ks node = length (numbers_with (guards topology node) at ks)

  sums_same : (ns : List Node) (hs : List GuardedNode) → length hs ≡ length ns
      → ((e : ℕ) (node : Node) (n : GuardedNode) → slice_get ns e ≡ Some node
      → slice_get hs e ≡ Some n → length n.guards.items ≡ guards_count 0 ds node)
      → sum_by (λ n. length n.guards.items) hs ≡ sum_by (guards_count 0 ds) ns
  sums_same [] [] long each = refl
  sums_same [] (h ∷ hs) long each = absurd (omega (arith, long))
  sums_same (node ∷ ns) [] long each = absurd (omega (arith, long))
  sums_same (node ∷ ns) (h ∷ hs) long each =
      let less : length hs ≡ length ns = omega (arith, long) in
      sum_by-cons (λ (m : GuardedNode). length m.guards.items) h hs
      ∙ (λ i. each 0 node h refl refl i
      + sums_same ns hs less (λ e x n s t. each (suc e) x n s t) i)
      ∙ sym (sum_by-cons (guards_count 0 ds) node ns)

  abbrev one_if : Derivation → Node → ℕ
  one_if d node = cond (guards topology node d) 1 0

  sum_none : (at : ℕ) (ns : List Node) → sum_by (guards_count at []) ns ≡ 0
  sum_none at [] = refl
  sum_none at (node ∷ ns) =
      let sum = sum_by-cons (guards_count at []) node ns in
      let rest = sum_none at ns in
      omega (arith, sum, rest)

  count_cons : (at : ℕ) (d : Derivation) (ks : List Derivation) (node : Node)
      → guards_count at (d ∷ ks) node ≡ one_if d node + guards_count (suc at) ks node
  count_cons at d ks node = by (guards topology node d) where
    by : (b : Bool) → length (if b then at ∷ numbers_with (guards topology node) (suc at) ks
        else numbers_with (guards topology node) (suc at) ks)
        ≡ cond b 1 0 + guards_count (suc at) ks node
    by true = omega arith
    by false = omega arith

  sum_cons : (at : ℕ) (d : Derivation) (ks : List Derivation) (ns : List Node)
      → sum_by (guards_count at (d ∷ ks)) ns
      ≡ sum_by (one_if d) ns + sum_by (guards_count (suc at) ks) ns
  sum_cons at d ks [] = omega arith
  sum_cons at d ks (node ∷ ns) =
      let whole = sum_by-cons (guards_count at (d ∷ ks)) node ns in
      let ones = sum_by-cons (one_if d) node ns in
      let rest = sum_by-cons (guards_count (suc at) ks) node ns in
      let one = count_cons at d ks node in
      let more = sum_cons at d ks ns in
      omega (arith, whole, ones, rest, one, more)

  abbrev is_effect : Derivation → Node → Bool
  is_effect d node =
      is_event_among topology (iterators d.linking) d.binding d.linking.right node

  ones_few : (d : Derivation) (at : ℕ) (ns : List Node)
      → sum_by (one_if d) ns ≤ length (numbers_with (is_effect d) at ns)
  ones_few d at [] = omega arith
  ones_few d at (node ∷ ns) =
      let sum = sum_by-cons (one_if d) node ns in
      let more = ones_few d (suc at) ns in
      by (is_effect d node) refl sum more where
        most : (b : Bool) → cond b 1 0 ≤ 1
        most true = omega arith
        most false = omega arith

        by : (b : Bool) → is_effect d node ≡ b
            → sum_by (one_if d) (node ∷ ns) ≡ one_if d node + sum_by (one_if d) ns
            → sum_by (one_if d) ns ≤ length (numbers_with (is_effect d) (suc at) ns)
            → sum_by (one_if d) (node ∷ ns)
            ≤ length (if b then at ∷ numbers_with (is_effect d) (suc at) ns
            else numbers_with (is_effect d) (suc at) ns)
        by true is sum more =
            let few : one_if d node ≤ 1 = most (guards topology node d) in
            omega (arith, sum, more, few)
        by false is sum more =
            let none : one_if d node ≡ 0 =
            ap (λ (b : Bool). cond (b && are_guards topology (iterators d.linking) d.binding
            d.linking.right node) 1 0) is in
            omega (arith, sum, more, none)

  sums_few : (at : ℕ) (ks : List Derivation)
      → sum_by (guards_count at ks) nodes ≤ links (map (derived topology nodes) ks)
  sums_few at [] = let none = sum_none at nodes in omega (arith, none)
  sums_few at (d ∷ ks) =
      let split = sum_cons at d ks nodes in
      let ones = ones_few d 0 nodes in
      let more = sums_few (suc at) ks in
      let sum = sum_by-cons links_of (derived topology nodes d) (map (derived topology nodes) ks)
      in
      let size : links_of (derived topology nodes d)
      ≡ length (events_of topology nodes (iterators d.linking) d.binding d.linking.left)
      + length (numbers_with (is_effect d) 0 nodes) = refl in
      omega (arith, split, ones, more, sum, size)

  guards_few : length (guarded_links value) ≤ links (map (derived topology nodes) ds)
  guards_few =
      let long = links_long 0 gs in
      let same = sums_same nodes gs are.long
      (λ e node n s t. guards_long topology node ds n (are.each e node n s t).1) in
      let few = sums_few 0 ds in
      omega (arith, long, same, few)

  -- ---- guarded links are links
  mapped_at : (ks : List Derivation) (i : ℕ) (d : Derivation) → slice_get ks i ≡ Some d
      → slice_get (map (derived topology nodes) ks) i ≡ Some (derived topology nodes d)
  mapped_at [] i d h = none_is_not d h
  mapped_at (k ∷ ks) zero d h = ap (λ z. Some (derived topology nodes z)) (same_Some k d h)
  mapped_at (k ∷ ks) (suc i) d h = mapped_at ks i d h

  guards_links : (i e : ℕ) → is_guarded value i e ≡ true
      → is_member ((wiring (map (derived topology nodes) ds)).effects i) e ≡ true
  guards_links i e h = by (slice_get nodes e) refl (sym (guarded_same i e) ∙ h) where
    effect : (node : Node) → slice_get nodes e ≡ Some node → (o : Option Derivation)
        → slice_get ds i ≡ o → some_passes (guards topology node) o ≡ true
        → is_member (effects_if_any (slice_get (map (derived topology nodes) ds) i)) e ≡ true
    effect node s None t given = absurd (false≢true given)
    effect node s (Some d) t given =
        ap (λ (x : Option Instance). is_member (effects_if_any x) e) (mapped_at ds i d t)
        ∙ numbers_member (is_effect d) nodes e
        ∙ ap (some_passes (is_effect d)) s
        ∙ (and_parts (is_effect d node) _ given).0

    by : (o : Option Node) → slice_get nodes e ≡ o
        → is_member (guarded_at topology ds (slice_get nodes e)) i ≡ true
        → is_member ((wiring (map (derived topology nodes) ds)).effects i) e ≡ true
    by None s given =
        absurd (false≢true (ap (λ (o : Option Node). is_member (guarded_at topology ds o) i)
        (sym s) ∙ given))
    by (Some node) s given =
        let number : some_passes (guards topology node) (slice_get ds i) ≡ true =
        sym (numbers_member (guards topology node) ds i)
        ∙ ap (λ (o : Option Node). is_member (guarded_at topology ds o) i) (sym s) ∙ given in
        effect node s (slice_get ds i) refl number

-- ---- all guards are those of the graph
pub guards_of : (f : CheckedFile) (topology : Topology) (g : GraphValue)
    → IsInstantiated f topology g → (all : AllGuards)
    → AreAllGuards topology g.nodes (map view_prop f.props) all
    → AreGuardsOf f topology g (record { topology = topology; nodes = all.nodes.items })
guards_of f topology g made all are =
    let ls = map view_prop f.props in
    let ds = derivations topology g.nodes ls are.candidates in
    let same = same_candidates topology ls made.is.candidates are.candidates made.is.all
    are.candidates_are in
    let instances : g.instances ≡ instances_of_all topology g.nodes ls are.candidates =
    made.is.instances ∙ ap (instances_of_all topology g.nodes ls) same in
    let derived_are : map (derived topology g.nodes) ds ≡ g.instances =
    all_derived topology g.nodes ls are.candidates ∙ sym instances in
    record {
      candidates = are.candidates;
      all = are.candidates_are;
      instances = instances;
      guarded = guarded_same topology g.nodes ds all.nodes.items are.guards_are;
      broken = broken_same topology g.nodes ds all.nodes.items are.guards_are;
      links = links_guarded_same topology g.nodes ds all.nodes.items are.guards_are;
      fits = record {
        links_are = λ i e h.
            ap (λ (is : List Instance). is_member ((wiring is).effects i) e) (sym derived_are)
            ∙ guards_links topology g.nodes ds all.nodes.items are.guards_are i e h;
        few = subst (λ (is : List Instance). length (guarded_links (record {
          topology = topology;
          nodes = all.nodes.items;
        })) ≤ links is) derived_are
            (guards_few topology g.nodes ds all.nodes.items are.guards_are);
      };
    }
