-- Guards more: of one effect, of one instance, of one propagation.
use Rattle.std.proofs.Common.{◌≡◌, ◌<◌, ◌≤◌, ◌+◌, ◌++◌, ◌&&◌, ◌||◌, ◌==◌, ℕ, zero, suc, Bool, true}
use Rattle.std.proofs.Common.{false, not, List, [], ◌∷◌, length, map, filter, take, get_or}
use Rattle.std.proofs.Common.{slice_get, Some, refl, sym, ap, ◌∙◌, subst, arith}
use Rattle.std.proofs.Common.{if◌then◌else◌, append-nil, append_assoc, length-append, set}
use Rattle.std.specs.List.{list_any}
use Rattle.std.proofs.lemmas.Bool.{false≢true, eq-eqb, eqb-true, ne_eqb}
use Rattle.std.proofs.lemmas.List.{map_more, take_more}
use Rattle.std.proofs.lemmas.List.Folds.{list_any-append}
use Rattle.std.proofs.lemmas.Option.{get_or_from_slice_get, same_Some}
use Rattle.fm_topo.specs.Topology.{Topology}
use Rattle.ev_tree.specs.Pattern.{Pattern}
use Rattle.ev_check.specs.CheckedFile.{Linking, view_prop}
use Rattle.ev_check.specs.declared.checked.PropSpec.{PropSpec}
use Rattle.ev_join.specs.Tables.{RisesFrom}
use Rattle.ev_incidence.specs.Sets.{is_member}
use Rattle.ev_graph.specs.declared.nodes.Node.{Node}
use Rattle.ev_events.specs.Bindings.{AreAllBindings}
use Rattle.ev_events.specs.Names.{iterators}
use Rattle.ev_events.proofs.Places.{none_is_not, within_is}
use Rattle.ev_inst.specs.Asked.{AddsDerivations, AddsGuard, AddsGuards, AreAllGuards, AreBare}
use Rattle.ev_inst.specs.Asked.{AreGuardsTo, asked_of, guard_if, guards_to}
use Rattle.ev_guards.specs.Watched.{Guarded}
use Rattle.ev_inst.specs.Asked.{made_of, side_events, side_guards, side_patterns}
use Rattle.ev_guards.specs.Watched.{view_guard}
use Rattle.ev_guards.specs.Watched.{view_question}
use Rattle.ev_inst.specs.Gathering.{some_passes}
use Rattle.ev_inst.specs.Guarding.{Derivation, are_guards, asks_if, derivation, derivations}
use Rattle.ev_inst.specs.Outcomes.{is_complete, is_dropped, is_event_among, is_made}
use Rattle.ev_inst.specs.Outcomes.{instance_of, is_skipped}
use Rattle.ev_guards.specs.declared.guards.Guard.{Guard}
use Rattle.ev_guards.specs.declared.guards.GuardedNode.{GuardedNode}
use Rattle.ev_inst.specs.declared.guarding.AllGuards.{AllGuards}
use Rattle.ev_inst.specs.declared.guarding.RightSide.{RightSide}
use Rattle.ev_inst.proofs.Buildable.{node_of}
use Rattle.ev_inst.proofs.Deriving.{derivations_push, map_both}
use Rattle.ev_inst.proofs.Gathering.{candidates_push}
use Rattle.ev_inst.proofs.GuardLaws.{there_as}
use Rattle.ev_inst.proofs.NodeSets.{numbers_member, numbers_rise}
use Rattle.ev_inst.proofs.Questioning.{none_guarded, where_guarded}

-- ---- numbers that rise
at_least : (low : ℕ) (xs : List ℕ) (i d : ℕ) → RisesFrom low xs → i < length xs
    → low ≤ get_or xs i d
at_least low [] i d h less = absurd (omega (arith, less))
at_least low (x ∷ xs) zero d h less = h.0
at_least low (x ∷ xs) (suc i) d h less =
    let up = h.0 in
    let rest = at_least (x + 1) xs i d h.1 (omega (arith, less)) in
    omega (arith, up, rest)

-- none stands among those before it
fresh : (low : ℕ) (xs : List ℕ) (i d : ℕ) → RisesFrom low xs → i < length xs
    → is_member (take i xs) (get_or xs i d) ≡ false
fresh low [] i d h less = absurd (omega (arith, less))
fresh low (x ∷ xs) zero d h less = refl
fresh low (x ∷ xs) (suc i) d h less =
    let above = at_least (x + 1) xs i d h.1 (omega (arith, less)) in
    let other : (x == get_or xs i d) ≡ false = ne_eqb x (get_or xs i d)
    (λ e. omega (arith, e, above))
    in
    ap (λ (b : Bool). b || is_member (take i xs) (get_or xs i d)) other
    ∙ fresh (x + 1) xs i d h.1 (omega (arith, less))

-- ---- the front of a list
pub front_only : {X : Type 0} (n : ℕ) (xs ys : List X) → n ≡ length xs → take n (xs ++ ys) ≡ xs
front_only n xs ys is = ap (λ (k : ℕ). take k (xs ++ ys)) is ∙ front xs ys where
  front : {Y : Type 0} (zs ws : List Y) → take (length zs) (zs ++ ws) ≡ zs
  front [] ws = refl
  front (z ∷ zs) ws = ap (λ (us : List _). z ∷ us) (front zs ws)

-- ---- a guard behind the others of a node
set_long : {X : Type 0} (xs : List X) (e : ℕ) (n : X) → length (set xs e n) ≡ length xs
set_long [] e n = refl
set_long (x ∷ xs) zero n = refl
set_long (x ∷ xs) (suc e) n = ap suc (set_long xs e n)

set_here : {X : Type 0} (xs : List X) (e : ℕ) (n : X) → e < length xs
    → slice_get (set xs e n) e ≡ Some n
set_here [] e n less = absurd (omega (arith, less))
set_here (x ∷ xs) zero n less = refl
set_here (x ∷ xs) (suc e) n less = set_here xs e n (omega (arith, less))

set_other : {X : Type 0} (xs : List X) (e : ℕ) (n : X) (i : ℕ) → (i ≡ e → ⊥)
    → slice_get (set xs e n) i ≡ slice_get xs i
set_other [] e n i other = refl
set_other (x ∷ xs) zero n zero other = absurd (other refl)
set_other (x ∷ xs) zero n (suc i) other = refl
set_other (x ∷ xs) (suc e) n zero other = refl
set_other (x ∷ xs) (suc e) n (suc i) other = set_other xs e n i (λ same. other (ap suc same))

guards_push : (gs : List Guard) (g : Guard)
    → map view_guard (gs ++ g ∷ []) ≡ map view_guard gs ++ view_guard g ∷ []
guards_push [] g = refl
guards_push (x ∷ gs) g = ap (λ (vs : List Guarded). view_guard x ∷ vs) (guards_push gs g)

pub guard_pushed : (e : ℕ) (g : Guard) (old : List GuardedNode) (d : GuardedNode)
    → e < length old → (n : GuardedNode) → n.path ≡ (get_or old e d).path
    → n.guards.items ≡ (get_or old e d).guards.items ++ g ∷ []
    → AddsGuard e (view_guard g) old (set old e n)
guard_pushed e g old d less n path put = record {
  long = set_long old e n;
  at = λ o m s t.
      let was : get_or old e d ≡ o = get_or_from_slice_get old e o d s in
      let is : m ≡ n = same_Some m n (sym t ∙ set_here old e n less) in (
        ap (λ (x : GuardedNode). x.path) is ∙ path ∙ ap (λ (x : GuardedNode). x.path) was,
        ap (λ (x : GuardedNode). map view_guard x.guards.items) is
            ∙ ap (map view_guard) put
            ∙ guards_push (get_or old e d).guards.items g
            ∙ ap (λ (x : GuardedNode). map view_guard x.guards.items ++ view_guard g ∷ []) was,
      );
  others = λ i other. set_other old e n i other;
}

-- ---- the guards of one effect
module _ (r : RightSide) where
  abbrev side_names : List (List ℕ)
  side_names = r.binding.now.names.now

  abbrev side_binding : List ℕ
  side_binding = r.binding.now.instances.now

  abbrev is_side_event : Node → Bool
  is_side_event =
      is_event_among r.binding.now.topo.now side_names side_binding (side_patterns r)

  abbrev is_side_guarded : Node → Bool
  is_side_guarded =
      are_guards r.binding.now.topo.now side_names side_binding (side_patterns r)

  -- the node of an effect
  pub effect_node : (e : ℕ) → is_member (side_events r) e ≡ true
      → (node : Node) × (slice_get r.nodes.now e ≡ Some node) × (is_side_event node ≡ true)
  effect_node e h = node_of is_side_event r.nodes.now e h

  pub effect_event : (e : ℕ) (node : Node) → slice_get r.nodes.now e ≡ Some node
      → is_member (side_events r) e ≡ true → is_side_event node ≡ true
  effect_event e node s h =
      sym (ap (some_passes is_side_event) s) ∙ sym (numbers_member is_side_event r.nodes.now e) ∙ h

  pub effect_within : (e : ℕ) → is_member (side_events r) e ≡ true → e < length r.nodes.now
  effect_within e h =
      let n = effect_node e h in within_is r.nodes.now e n.0 n.1

  same_node : (e : ℕ) (node x : Node) → slice_get r.nodes.now e ≡ Some node
      → slice_get r.nodes.now e ≡ Some x → node ≡ x
  same_node e node x s t = same_Some node x (sym s ∙ t)

  nothing_more : (xs : List Guarded) → xs ≡ xs ++ []
  nothing_more xs = sym (append-nil xs)

  -- the guard of the link to a node, where the link is guarded
  abbrev own_guard : Node → Guarded
  own_guard node = record {
    instance = r.instance;
    asked = asked_of r.binding.now.topo.now side_names side_binding node (side_patterns r);
  }

  no_guard : (node : Node) → is_side_guarded node ≡ false → side_guards r node ≡ []
  no_guard node h = by (is_side_event node) where
    by : (e : Bool) → where_guarded (own_guard node) (e && is_side_guarded node) ≡ []
    by true = ap (where_guarded (own_guard node)) h
    by false = refl

  pub unguarded_effect : (e : ℕ) (node : Node) → slice_get r.nodes.now e ≡ Some node
      → is_side_guarded node ≡ false → (gs : List GuardedNode) → AddsGuards r (e ∷ []) gs gs
  unguarded_effect e node s h gs = record {
    long = refl;
    each = λ x other o n t u w.
        let same : n ≡ o = same_Some n o (sym w ∙ u) in (
          ap (λ (m : GuardedNode). m.path) same,
          ap (λ (m : GuardedNode). map view_guard m.guards.items) same
              ∙ by x other o t (is_member (e ∷ []) x) refl,
        );
  } where
    or_none : (a : Bool) → (a || false) ≡ a
    or_none true = refl
    or_none false = refl

    by : (x : ℕ) (other : Node) (o : GuardedNode) → slice_get r.nodes.now x ≡ Some other
        → (m : Bool) → is_member (e ∷ []) x ≡ m
        → map view_guard o.guards.items
        ≡ map view_guard o.guards.items
        ++ (if is_member (e ∷ []) x then side_guards r other else [])
    by x other o t true is =
        let at : e ≡ x = eqb-true e x (sym (or_none (e == x)) ∙ is) in
        let same : node ≡ other = same_node x node other
        (subst (λ (y : ℕ). slice_get r.nodes.now y ≡ Some node) at s) t in
        nothing_more (map view_guard o.guards.items)
        ∙ ap (λ (gs : List Guarded). map view_guard o.guards.items ++ gs)
        (sym (ap (λ (m : Bool). if m then side_guards r other else []) is
        ∙ no_guard other (subst (λ (z : Node). is_side_guarded z ≡ false) same h)))
    by x other o t false is =
        nothing_more (map view_guard o.guards.items)
        ∙ ap (λ (m : Bool). map view_guard o.guards.items
        ++ (if m then side_guards r other else [])) (sym is)

  pub guarded_effect : (e : ℕ) (node : Node) → slice_get r.nodes.now e ≡ Some node
      → is_side_event node ≡ true → is_side_guarded node ≡ true → (g : Guard)
      → g.instance ≡ r.instance
      → map view_question g.questions.items
      ≡ asked_of r.binding.now.topo.now side_names side_binding node (side_patterns r)
      → (old new : List GuardedNode) → AddsGuard e (view_guard g) old new
      → AddsGuards r (e ∷ []) old new
  guarded_effect e node s is_event is_guard g number asked old new adds = record {
    long = adds.long;
    each = λ x other o n t u w. by x other o n t u w (x == e) refl;
  } where
    one : (other : Node) → node ≡ other → view_guard g ∷ [] ≡ side_guards r other
    one other same =
        let first : view_guard g ∷ [] ≡ own_guard node ∷ [] =
        λ i. record { instance = number i; asked = asked i } ∷ [] in
        let whole : side_guards r node ≡ own_guard node ∷ [] =
        ap (where_guarded (own_guard node)) (λ i. is_event i && is_guard i) in
        first ∙ sym whole ∙ ap (side_guards r) same

    member_here : (x : ℕ) → (x == e) ≡ true → is_member (e ∷ []) x ≡ true
    member_here x h =
        ap (λ (m : Bool). m || false) (eq-eqb e x (sym (eqb-true x e h)))

    member_not : (x : ℕ) → (x == e) ≡ false → is_member (e ∷ []) x ≡ false
    member_not x h =
        ap (λ (m : Bool). m || false) (ne_eqb e x (λ k. false≢true (sym h ∙ eq-eqb x e (sym k))))

    by : (x : ℕ) (other : Node) (o n : GuardedNode) → slice_get r.nodes.now x ≡ Some other
        → slice_get old x ≡ Some o → slice_get new x ≡ Some n → (m : Bool) → (x == e) ≡ m
        → (n.path ≡ o.path) × (map view_guard n.guards.items ≡ map view_guard o.guards.items
        ++ (if is_member (e ∷ []) x then side_guards r other else []))
    by x other o n t u w true is =
        let at : x ≡ e = eqb-true x e is in
        let told = adds.at o n (subst (λ (y : ℕ). slice_get old y ≡ Some o) at u)
        (subst (λ (y : ℕ). slice_get new y ≡ Some n) at w) in
        let same : node ≡ other = same_node e node other s
        (subst (λ (y : ℕ). slice_get r.nodes.now y ≡ Some other) at t) in (
          told.0,
          told.1
              ∙ ap (λ (gs : List Guarded). map view_guard o.guards.items ++ gs) (one other same)
              ∙ ap (λ (m : Bool). map view_guard o.guards.items
              ++ (if m then side_guards r other else [])) (sym (member_here x is)),
        )
    by x other o n t u w false is =
        let kept = adds.others x (λ k. false≢true (sym is ∙ eq-eqb x e k)) in
        let same : n ≡ o = same_Some n o (sym w ∙ kept ∙ u) in (
          ap (λ (m : GuardedNode). m.path) same,
          ap (λ (m : GuardedNode). map view_guard m.guards.items) same
              ∙ nothing_more (map view_guard o.guards.items)
              ∙ ap (λ (m : Bool). map view_guard o.guards.items
              ++ (if m then side_guards r other else [])) (sym (member_not x is)),
        )

  -- ---- one effect more
  pub no_effects : (gs : List GuardedNode) → AddsGuards r [] gs gs
  no_effects gs = record {
    long = refl;
    each = λ x other o n t u w.
        let same : n ≡ o = same_Some n o (sym w ∙ u) in (
          ap (λ (m : GuardedNode). m.path) same,
          ap (λ (m : GuardedNode). map view_guard m.guards.items) same
              ∙ nothing_more (map view_guard o.guards.items),
        );
  }

  joined : (es : List ℕ) (e x : ℕ) → is_member es e ≡ false → (gs : List Guarded)
      → (if is_member es x then gs else []) ++ (if is_member (e ∷ []) x then gs else [])
      ≡ (if is_member (es ++ e ∷ []) x then gs else [])
  joined es e x new gs = by (is_member es x) refl (is_member (e ∷ []) x) refl where
    whole : is_member (es ++ e ∷ []) x ≡ (is_member es x || is_member (e ∷ []) x)
    whole = list_any-append (λ y. y == x) es (e ∷ [])

    or_none : (a : Bool) → (a || false) ≡ a
    or_none true = refl
    or_none false = refl

    by : (m : Bool) → is_member es x ≡ m → (k : Bool) → is_member (e ∷ []) x ≡ k
        → (if is_member es x then gs else []) ++ (if is_member (e ∷ []) x then gs else [])
        ≡ (if is_member (es ++ e ∷ []) x then gs else [])
    by m is k at =
        (λ i. (if is i then gs else []) ++ (if at i then gs else []))
        ∙ either m k is at
        ∙ ap (λ (z : Bool). if z then gs else []) (sym (whole ∙ (λ i. is i || at i))) where
          either : (m k : Bool) → is_member es x ≡ m → is_member (e ∷ []) x ≡ k
              → (if m then gs else []) ++ (if k then gs else [])
              ≡ (if m || k then gs else [])
          either true true is at =
              let same : e ≡ x = eqb-true e x (sym (or_none (e == x)) ∙ at) in
              absurd (false≢true (sym new ∙ ap (is_member es) same ∙ is))
          either true false is at = append-nil gs
          either false true is at = refl
          either false false is at = refl

  pub one_effect : (es : List ℕ) (e : ℕ) → is_member es e ≡ false
      → (old mid new : List GuardedNode) → AddsGuards r es old mid
      → AddsGuards r (e ∷ []) mid new → AddsGuards r (es ++ e ∷ []) old new
  one_effect es e is_new old mid new before step = record {
    long = step.long ∙ before.long;
    each = λ x node o n t u w.
        let m = there_as old mid x o before.long u in
        let first = before.each x node o m.0 t u m.1 in
        let then_more = step.each x node m.0 n t m.1 w in (
          then_more.0 ∙ first.0,
          then_more.1
              ∙ ap (λ (gs : List Guarded). gs
              ++ (if is_member (e ∷ []) x then side_guards r node else [])) first.1
              ∙ append_assoc (map view_guard o.guards.items)
              (if is_member es x then side_guards r node else [])
              (if is_member (e ∷ []) x then side_guards r node else [])
              ∙ ap (λ (gs : List Guarded). map view_guard o.guards.items ++ gs)
              (joined es e x is_new (side_guards r node)),
        );
  }

  pub effect_step : (effects : List ℕ) → effects ≡ side_events r → (i e : ℕ)
      → i < length effects → e ≡ get_or effects i 0 → (old mid new : List GuardedNode)
      → AddsGuards r (take i effects) old mid → AddsGuards r (e ∷ []) mid new
      → AddsGuards r (take (i + 1) effects) old new
  effect_step effects same i e less is old mid new before step =
      let rises : RisesFrom 0 effects =
      subst (RisesFrom 0) (sym same) (numbers_rise is_side_event 0 r.nodes.now) in
      let is_new : is_member (take i effects) e ≡ false =
      ap (is_member (take i effects)) is ∙ fresh 0 effects i 0 rises less in
      let more : take (i + 1) effects ≡ take i effects ++ e ∷ [] =
      take_more effects i 0 less
      ∙ ap (λ (x : ℕ). take i effects ++ x ∷ []) (sym is) in
      subst (λ (es : List ℕ). AddsGuards r es old new) (sym more)
      (one_effect (take i effects) e is_new old mid new before step)

-- ---- the guards of one instance
-- the guards at a node that no effect has are none
events_only : (topology : Topology) (vs : List (List ℕ)) (b : List ℕ) (qs : List Pattern)
    (at : ℕ) (node : Node) (m : Bool) → m ≡ is_event_among topology vs b qs node
    → (if m then guard_if topology vs b qs at node else []) ≡ guard_if topology vs b qs at node
events_only topology vs b qs at node true is = refl
events_only topology vs b qs at node false is =
    ap (λ (e : Bool).
    where_guarded (record { instance = at; asked = asked_of topology vs b node qs })
    (e && are_guards topology vs b qs node)) is

pub instance_added : (r : RightSide) (l : Linking) (es : List ℕ)
    → r.binding.now.names.now ≡ iterators l → side_patterns r ≡ l.right
    → es ≡ side_events r → (old new : AllGuards) → r.instance ≡ old.count
    → (from to : List GuardedNode) → from ≡ old.nodes.items → new.nodes.items ≡ to
    → AddsGuards r es from to → new.count ≡ old.count + 1
    → AddsDerivations r.binding.now.topo.now r.nodes.now
    (derivation l r.binding.now.instances.now ∷ []) old new
instance_added r l es names patterns are old new number from to was is adds counted = record {
  count = counted;
  long = ap (λ (gs : List GuardedNode). length gs) is ∙ adds.long
      ∙ ap (λ (gs : List GuardedNode). length gs) was;
  each = λ e node o n s t u.
      let told = adds.each e node o n s
      (ap (λ (gs : List GuardedNode). slice_get gs e) was ∙ t)
      (ap (λ (gs : List GuardedNode). slice_get gs e) (sym is) ∙ u) in
      let topology = r.binding.now.topo.now in
      let b = r.binding.now.instances.now in
      let event : Node → Bool = is_event_among topology r.binding.now.names.now b (side_patterns r)
      in
      let member : is_member es e ≡ event node =
      ap (λ (xs : List ℕ). is_member xs e) are ∙ numbers_member event r.nodes.now e
      ∙ ap (some_passes event) s in (
        told.0,
        told.1
            ∙ ap (λ (gs : List Guarded). map view_guard o.guards.items ++ gs)
            (events_only topology r.binding.now.names.now b (side_patterns r) r.instance node
            (is_member es e) member
            ∙ (λ i. guard_if topology (names i) b (patterns i) (number i) node)
            ∙ sym (append-nil (guard_if topology (iterators l) b l.right old.count node))),
      );
}

-- an instance without guards
pub instance_counted : (topology : Topology) (nodes : List Node) (l : Linking) (b : List ℕ)
    (qs : List Pattern) → qs ≡ l.right → list_any (λ q. asks_if q.cond) qs ≡ false
    → (old new : AllGuards) → new.nodes.items ≡ old.nodes.items → new.count ≡ old.count + 1
    → AddsDerivations topology nodes (derivation l b ∷ []) old new
instance_counted topology nodes l b qs right none old new same counted = record {
  count = counted;
  long = ap (λ (gs : List GuardedNode). length gs) same;
  each = λ e node o n s t u.
      let kept : n ≡ o =
      same_Some n o (sym u ∙ ap (λ (gs : List GuardedNode). slice_get gs e) same ∙ t) in
      let bare : guard_if topology (iterators l) b l.right old.count node ≡ [] =
      none_guarded topology (iterators l) b l.right
      (ap (λ (ps : List Pattern). list_any (λ q. asks_if q.cond) ps) (sym right) ∙ none) old.count
      node in (
        ap (λ (m : GuardedNode). m.path) kept,
        ap (λ (m : GuardedNode). map view_guard m.guards.items) kept
            ∙ sym (append-nil (map view_guard o.guards.items))
            ∙ ap (λ (gs : List Guarded). map view_guard o.guards.items ++ (gs ++ [])) (sym bare),
      );
}

-- ---- instances one after another
pub none_added_yet : (topology : Topology) (nodes : List Node) (all : AllGuards)
    → AddsDerivations topology nodes [] all all
none_added_yet topology nodes all = record {
  count = omega arith;
  long = refl;
  each = λ e node o n s t u.
      let same : n ≡ o = same_Some n o (sym u ∙ t) in (
        ap (λ (m : GuardedNode). m.path) same,
        ap (λ (m : GuardedNode). map view_guard m.guards.items) same
            ∙ sym (append-nil (map view_guard o.guards.items)),
      );
}

guards_append : (topology : Topology) (node : Node) (at : ℕ) (ds es : List Derivation)
    → guards_to topology node at (ds ++ es)
    ≡ guards_to topology node at ds ++ guards_to topology node (at + length ds) es
guards_append topology node at [] es =
    let same : at ≡ at + 0 = omega arith in
    ap (λ (n : ℕ). guards_to topology node n es) same
guards_append topology node at (d ∷ ds) es =
    let own = guard_if topology (iterators d.linking) d.binding d.linking.right at node in
    let same : suc at + length ds ≡ at + suc (length ds) = omega arith in
    ap (λ (gs : List Guarded). own ++ gs) (guards_append topology node (suc at) ds es)
    ∙ sym (append_assoc own (guards_to topology node (suc at) ds)
    (guards_to topology node (suc at + length ds) es))
    ∙ ap (λ (n : ℕ). (own ++ guards_to topology node (suc at) ds) ++ guards_to topology node n es)
    same

pub added_both : (topology : Topology) (nodes : List Node) (ds es : List Derivation)
    (old mid new : AllGuards) → AddsDerivations topology nodes ds old mid
    → AddsDerivations topology nodes es mid new
    → AddsDerivations topology nodes (ds ++ es) old new
added_both topology nodes ds es old mid new before step = record {
  count =
      let first = before.count in
      let then_more = step.count in
      let sum = length-append ds es in omega (arith, first, then_more, sum);
  long = step.long ∙ before.long;
  each = λ e node o n s t u.
      let m = there_as old.nodes.items mid.nodes.items e o before.long t in
      let first = before.each e node o m.0 s t m.1 in
      let then_more = step.each e node m.0 n s m.1 u in (
        then_more.0 ∙ first.0,
        then_more.1
            ∙ ap (λ (gs : List Guarded). gs ++ guards_to topology node mid.count es) first.1
            ∙ append_assoc (map view_guard o.guards.items) (guards_to topology node old.count ds)
            (guards_to topology node mid.count es)
            ∙ ap (λ (n : ℕ). map view_guard o.guards.items
            ++ (guards_to topology node old.count ds ++ guards_to topology node n es))
            before.count
            ∙ ap (λ (gs : List Guarded). map view_guard o.guards.items ++ gs)
            (sym (guards_append topology node old.count ds es)),
      );
}

-- ---- the instance of a candidate
filter_both : {X : Type 0} (test : X → Bool) (xs ys : List X)
    → filter test (xs ++ ys) ≡ filter test xs ++ filter test ys
filter_both test [] ys = refl
filter_both test (x ∷ xs) ys = by (test x) refl (filter_both test xs ys) where
  by : (m : Bool) → test x ≡ m → filter test (xs ++ ys) ≡ filter test xs ++ filter test ys
      → filter test (x ∷ xs ++ ys) ≡ filter test (x ∷ xs) ++ filter test ys
  by true is rest = rw is (ap (λ (zs : List _). x ∷ zs) rest)
  by false is rest = rw is rest

made_both : (topology : Topology) (nodes : List Node) (l : Linking) (bs cs : List (List ℕ))
    → made_of topology nodes l (bs ++ cs)
    ≡ made_of topology nodes l bs ++ made_of topology nodes l cs
made_both topology nodes l bs cs =
    ap (map (derivation l)) (filter_both (is_made topology nodes l) bs cs)
    ∙ map_both (derivation l) (filter (is_made topology nodes l) bs)
    (filter (is_made topology nodes l) cs)

one_made : (topology : Topology) (nodes : List Node) (l : Linking) (b : List ℕ) (m : Bool)
    → is_made topology nodes l b ≡ m
    → made_of topology nodes l (b ∷ []) ≡ (if m then derivation l b ∷ [] else [])
one_made topology nodes l b true is =
    ap (λ (m : Bool). map (derivation l) (if m then b ∷ [] else [])) is
one_made topology nodes l b false is =
    ap (λ (m : Bool). map (derivation l) (if m then b ∷ [] else [])) is

pub made_added : (topology : Topology) (nodes : List Node) (l : Linking) (b : List ℕ)
    → is_made topology nodes l b ≡ true → (old new : AllGuards)
    → AddsDerivations topology nodes (derivation l b ∷ []) old new
    → AddsDerivations topology nodes (made_of topology nodes l (b ∷ [])) old new
made_added topology nodes l b is old new adds =
    subst (λ (ds : List Derivation). AddsDerivations topology nodes ds old new)
    (sym (one_made topology nodes l b true is)) adds

pub unmade_added : (topology : Topology) (nodes : List Node) (l : Linking) (b : List ℕ)
    → is_made topology nodes l b ≡ false → (all : AllGuards)
    → AddsDerivations topology nodes (made_of topology nodes l (b ∷ [])) all all
unmade_added topology nodes l b is all =
    subst (λ (ds : List Derivation). AddsDerivations topology nodes ds all all)
    (sym (one_made topology nodes l b false is)) (none_added_yet topology nodes all)

pub dropped_unmade : (topology : Topology) (nodes : List Node) (l : Linking) (b : List ℕ)
    → is_dropped topology l b ≡ true → is_made topology nodes l b ≡ false
dropped_unmade topology nodes l b is =
    ap (λ (d : Bool). not d && is_complete (instance_of topology nodes l b)) is

pub skipped_unmade : (topology : Topology) (nodes : List Node) (l : Linking) (b : List ℕ)
    → is_skipped topology nodes l b ≡ true → is_made topology nodes l b ≡ false
skipped_unmade topology nodes l b is =
    apart (is_dropped topology l b) (is_complete (instance_of topology nodes l b)) is where
      apart : (d c : Bool) → (not d && not c) ≡ true → (not d && c) ≡ false
      apart true c h = refl
      apart false true h = absurd (false≢true h)
      apart false false h = refl

pub candidate_more : (topology : Topology) (nodes : List Node) (l : Linking)
    (bindings seen : List (List ℕ)) → seen ≡ bindings → (i : ℕ) (b own : List ℕ)
    → i < length seen → b ≡ get_or seen i b → own ≡ b → (old mid new : AllGuards)
    → AddsDerivations topology nodes (made_of topology nodes l (take i bindings)) old mid
    → AddsDerivations topology nodes (made_of topology nodes l (own ∷ [])) mid new
    → AddsDerivations topology nodes (made_of topology nodes l (take (i + 1) bindings)) old new
candidate_more topology nodes l bindings seen same i b own less is owned old mid new before step =
    let more : take (i + 1) bindings ≡ take i bindings ++ b ∷ [] =
    ap (take (i + 1)) (sym same) ∙ take_more seen i b less
    ∙ (λ j. take i (same j) ++ sym is j ∷ []) in
    subst (λ (ds : List Derivation). AddsDerivations topology nodes ds old new)
    (sym (ap (made_of topology nodes l) more
    ∙ made_both topology nodes l (take i bindings) (b ∷ [])))
    (added_both topology nodes (made_of topology nodes l (take i bindings))
    (made_of topology nodes l (b ∷ [])) old mid new before
    (subst (λ (x : List ℕ). AddsDerivations topology nodes (made_of topology nodes l (x ∷ [])) mid
    new) owned step))

-- ---- no guards yet
pub bare_push : (nodes : List Node) (gs : List GuardedNode) (node : Node) (g : GuardedNode)
    → AreBare nodes gs → g.path ≡ node.name.path → g.guards.items ≡ []
    → AreBare (nodes ++ node ∷ []) (gs ++ g ∷ [])
bare_push [] [] node g h path none = (path, (none, tt))
bare_push [] (x ∷ gs) node g h path none = absurd h
bare_push (y ∷ nodes) [] node g h path none = absurd h
bare_push (y ∷ nodes) (x ∷ gs) node g h path none =
    (h.0, (h.1.0, bare_push nodes gs node g h.1.1 path none))

pub bare_step : (nodes : List Node) (i : ℕ) (node : Node) → i < length nodes
    → node ≡ get_or nodes i node → (old new : List GuardedNode) (g : GuardedNode)
    → AreBare (take i nodes) old → g.path ≡ node.name.path → g.guards.items ≡ []
    → new ≡ old ++ g ∷ [] → AreBare (take (i + 1) nodes) new
bare_step nodes i node less is old new g before path none put =
    subst (λ (xs : List Node). AreBare xs new)
    (sym (take_more nodes i node less ∙ ap (λ (x : Node). take i nodes ++ x ∷ []) (sym is)))
    (subst (AreBare (take i nodes ++ node ∷ [])) (sym put)
    (bare_push (take i nodes) old node g before path none))

bare_long : (nodes : List Node) (gs : List GuardedNode) → AreBare nodes gs
    → length gs ≡ length nodes
bare_long [] [] h = refl
bare_long [] (g ∷ gs) h = absurd h
bare_long (node ∷ nodes) [] h = absurd h
bare_long (node ∷ nodes) (g ∷ gs) h = ap suc (bare_long nodes gs h.1.1)

bare_at : (nodes : List Node) (gs : List GuardedNode) → AreBare nodes gs → (e : ℕ)
    (node : Node) (n : GuardedNode) → slice_get nodes e ≡ Some node → slice_get gs e ≡ Some n
    → (n.path ≡ node.name.path) × (n.guards.items ≡ [])
bare_at [] gs h e node n s t = none_is_not node s
bare_at (x ∷ nodes) [] h e node n s t = absurd h
bare_at (x ∷ nodes) (g ∷ gs) h zero node n s t =
    let x_is : x ≡ node = same_Some x node s in
    let g_is : g ≡ n = same_Some g n t in (
      ap (λ (m : GuardedNode). m.path) (sym g_is) ∙ h.0
          ∙ ap (λ (m : Node). m.name.path) x_is,
      ap (λ (m : GuardedNode). m.guards.items) (sym g_is) ∙ h.1.0,
    )
bare_at (x ∷ nodes) (g ∷ gs) h (suc e) node n s t = bare_at nodes gs h.1.1 e node n s t

pub all_bare : (topology : Topology) (nodes : List Node) (all : AllGuards)
    → AreBare nodes all.nodes.items → all.count ≡ 0 → AreAllGuards topology nodes [] all
all_bare topology nodes all bare none = record {
  candidates = [];
  candidates_are = tt;
  count = none;
  guards_are = record {
    long = bare_long nodes all.nodes.items bare;
    each = λ e node n s t.
        let told = bare_at nodes all.nodes.items bare e node n s t in
        (told.0, ap (map view_guard) told.1);
  };
}

-- ---- one propagation more
pub linking_added : (topology : Topology) (nodes : List Node) (ls : List Linking) (l : Linking)
    (bs : List (List ℕ)) (old new : AllGuards) → AreAllGuards topology nodes ls old
    → AreAllBindings topology l bs
    → AddsDerivations topology nodes (made_of topology nodes l bs) old new
    → AreAllGuards topology nodes (ls ++ l ∷ []) new
linking_added topology nodes ls l bs old new before all step =
    let ds = derivations topology nodes ls before.candidates in
    let push = derivations_push topology nodes ls before.candidates l bs before.candidates_are in
    record {
      candidates = before.candidates ++ bs ∷ [];
      candidates_are = candidates_push topology ls before.candidates l bs before.candidates_are
          all;
      count =
          let was = before.count in
          let more = step.count in
          let sum = length-append ds (made_of topology nodes l bs) in
          let same : length (derivations topology nodes (ls ++ l ∷ []) (before.candidates ++ bs
          ∷ [])) ≡ length (ds ++ made_of topology nodes l bs) =
          ap (λ (xs : List Derivation). length xs) push in
          omega (arith, was, more, sum, same);
      guards_are = subst (λ (xs : List Derivation). AreGuardsTo topology nodes xs new.nodes.items)
          (sym push) (record {
            long = step.long ∙ before.guards_are.long;
            each = λ e node n s t.
                let o = there_as nodes old.nodes.items e node before.guards_are.long s in
                let first = before.guards_are.each e node o.0 s o.1 in
                let then_more = step.each e node o.0 n s o.1 t in (
                  then_more.0 ∙ first.0,
                  then_more.1
                      ∙ ap (λ (gs : List Guarded).
                      gs ++ guards_to topology node old.count (made_of topology nodes l bs))
                      first.1
                      ∙ ap (λ (k : ℕ). guards_to topology node 0 ds
                      ++ guards_to topology node k (made_of topology nodes l bs))
                      (before.count ∙ (let z : length ds ≡ 0 + length ds = omega arith in z))
                      ∙ sym (guards_append topology node 0 ds (made_of topology nodes l bs)),
                );
          });
    }

pub prop_step : (topology : Topology) (nodes : List Node) (ps : List PropSpec) (i : ℕ)
    (p : PropSpec) → i < length ps → p ≡ get_or ps i p → (bs : List (List ℕ))
    (old new : AllGuards) → AreAllGuards topology nodes (map view_prop (take i ps)) old
    → AreAllBindings topology (view_prop p) bs
    → AddsDerivations topology nodes (made_of topology nodes (view_prop p) bs) old new
    → AreAllGuards topology nodes (map view_prop (take (i + 1) ps)) new
prop_step topology nodes ps i p less is bs old new before all step =
    let more : map view_prop (take (i + 1) ps)
    ≡ map view_prop (take i ps) ++ view_prop p ∷ [] =
    map_more view_prop ps i p less
    ∙ ap (λ (x : PropSpec). map view_prop (take i ps) ++ view_prop x ∷ []) (sym is) in
    subst (λ (ls : List Linking). AreAllGuards topology nodes ls new) (sym more)
    (linking_added topology nodes (map view_prop (take i ps)) (view_prop p) bs old new before all
    step)
