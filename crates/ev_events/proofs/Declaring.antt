-- The nodes and engines of a checked file: what they rest on is there, and what is made of the
-- names is all of them.
use Rattle.std.proofs.Common.{◌≡◌, ◌≤◌, ◌+◌, ◌&&◌, ℕ, zero, suc, List, []}
use Rattle.std.proofs.Common.{◌∷◌}
use Rattle.std.proofs.Common.{◌++◌, length, map, take, slice_get, Some, None, refl, sym, ap}
use Rattle.std.proofs.Common.{◌∙◌, subst, arith, inl, inr, ◌⊎◌}
use Rattle.std.proofs.lemmas.List.{take_all, take_more, length-take}
use Rattle.std.proofs.lemmas.Option.{get_or_from_slice_get, same_Some}
use Rattle.fm_name.specs.declared.events.EventName.{EventName}
use Rattle.fm_topo.specs.Topology.{Topology}
use Rattle.ev_tree.specs.declared.tree.Declared.{Declared}
use Rattle.ev_check.specs.CheckedFile.{CheckedFile}
use Rattle.ev_check.specs.Lawful.{file_events, spec_event}
use Rattle.ev_check.specs.declared.checked.DeclKind.{DeclKind}
use Rattle.ev_check.specs.declared.checked.DeclKind.TheVariants as kinds
use Rattle.ev_check.specs.declared.checked.EventSpec.{EventSpec}
use Rattle.ev_check.specs.declared.checked.SerdSpec.{SerdSpec}
use Rattle.ev_incidence.specs.Sets.{ascends_by, starts_above}
use Rattle.ev_graph.specs.declared.nodes.Node.{Node}
use Rattle.ev_graph.specs.declared.nodes.EngineSpec.{EngineSpec}
use Rattle.ev_events.proofs.Places.{none_is_not, there_is, within_is, get_map, map_there}
use Rattle.ev_events.proofs.Joining.{map_push}
use Rattle.ev_events.specs.Placed.{ArePlaced, IsAmongNames, IsDeclaredAt, is_before_name}
use Rattle.ev_events.specs.Nodes.{AreEngines, AreEnginesAt, AreEnginesThere, AreNodes, AreNodesAt}
use Rattle.ev_events.specs.Nodes.{AreNodesThere, ArePlacedEvents, HasEngine}
use Rattle.ev_events.specs.Nodes.{IsEngineFor, IsEngineOf, IsNodeAt, IsNodeOf}
use Rattle.ev_events.specs.Nodes.{engine_name, file_engines, node_name}
use Rattle.ev_events.specs.Nodes.{spec_engine}
use Rattle.ev_events.specs.Whole.{IsWholeFile}

pub map_long : {X Y : Type 0} (f : X → Y) (xs : List X) → length (map f xs) ≡ length xs
map_long f [] = refl
map_long f (x ∷ xs) = ap suc (map_long f xs)

-- ---- the order of what has a name is that of the names
module _ {X : Type 0} (name : X → EventName) where
  starts_named : (x : X) (xs : List X)
      → starts_above (λ a b. is_before_name (name a) (name b)) x xs
      ≡ starts_above is_before_name (name x) (map name xs)
  starts_named x [] = refl
  starts_named x (y ∷ ys) = refl

  pub ascends_named : (xs : List X)
      → ascends_by (λ a b. is_before_name (name a) (name b)) xs
      ≡ ascends_by is_before_name (map name xs)
  ascends_named [] = refl
  ascends_named (x ∷ xs) = λ i. starts_named x xs i && ascends_named xs i

module _ (f : CheckedFile) (topology : Topology) (whole : IsWholeFile f)
    (names : List EventName) (numbers : List ℕ) (engines : List EventName)
    (serds : List ℕ) (placed : ArePlaced topology (file_events f) names numbers)
    (others : ArePlaced topology (file_engines f) engines serds) where
  -- an engine with the names of an event is where the event is
  engine_there : (d : Declared) (name : EventName) → IsDeclaredAt topology d name
      → (n : ℕ) (s : SerdSpec)
      → slice_get f.engines n ≡ Some s → s.engine.names ≡ d.names
      → IsAmongNames engines (record { class = s.engine.class; path = name.path })
  engine_there d name at n s stands same =
      others.all n (record { class = s.engine.class; path = name.path }) (record {
        declared = s.engine;
        stands = map_there spec_engine f.engines n s stands;
        at = record {
          class = refl;
          number = at.number;
          there = at.there;
          named = at.named ∙ sym same;
        };
      })

  has_engine : (d : Declared) (name : EventName) → IsDeclaredAt topology d name → (kind : DeclKind)
      → ((n : ℕ) → kind ≡ kinds.Upset (Some n)
      → (s : SerdSpec) × (slice_get f.engines n ≡ Some s) × (s.engine.names ≡ d.names))
      → HasEngine f.engines engines name.path kind
  has_engine d name at (kinds.Fault fit retire) h = tt
  has_engine d name at (kinds.Defect fit retire) h = tt
  has_engine d name at (kinds.Upset None) h = tt
  has_engine d name at (kinds.Upset (Some n)) h =
      let s = h n refl in (s.0, s.1, engine_there d name at n s.0 s.1 s.2)
  has_engine d name at kinds.Inner h = tt
  has_engine d name at (kinds.Report within) h = tt

  pub nodes_there : AreNodesThere f engines names numbers
  nodes_there = record {
    long = placed.long;
    each = λ i k name s t.
        let p = placed.each i k name s t in
        let e = get_map spec_event f.events k p.declared p.stands in
        let at = subst (λ (d : Declared). IsDeclaredAt topology d name) (sym e.2) p.at in
        record {
          spec = e.0;
          declared = e.1;
          engine = has_engine e.0.event name at e.0.kind (whole.events k e.0 e.1).engine;
        };
  }

  -- an event with the names of an engine is where the engine is
  event_there : (d : Declared) (name : EventName) → IsDeclaredAt topology d name
      → (n : ℕ) (e : EventSpec)
      → slice_get f.events n ≡ Some e → e.event.names ≡ d.names
      → IsAmongNames names (record { class = e.event.class; path = name.path })
  event_there d name at n e stands same =
      placed.all n (record { class = e.event.class; path = name.path }) (record {
        declared = e.event;
        stands = map_there spec_event f.events n e stands;
        at = record {
          class = refl;
          number = at.number;
          there = at.there;
          named = at.named ∙ sym same;
        };
      })

  pub engines_there : AreEnginesThere f names engines serds
  engines_there = record {
    long = others.long;
    each = λ i k name s t.
        let p = others.each i k name s t in
        let e = get_map spec_engine f.engines k p.declared p.stands in
        let at = subst (λ (d : Declared). IsDeclaredAt topology d name) (sym e.2) p.at in
        let w = whole.engines k e.0 e.1 in
        record {
          spec = e.0;
          declared = e.1;
          trip = record {
            event = w.event;
            declared = w.trips;
            there = event_there e.0.engine name at e.0.trip w.event w.trips w.names;
          };
        };
  }

  module _ (ns : List Node) (es : List EngineSpec)
      (nodes_at : AreNodesAt f engines names numbers (length names) ns)
      (engines_at : AreEnginesAt f names engines serds (length engines) es) where
    node_names : map node_name ns ≡ names
    node_names = nodes_at.names_are ∙ take_all (length names) names (omega arith)

    engine_names : map engine_name es ≡ engines
    engine_names = engines_at.names_are ∙ take_all (length engines) engines (omega arith)

    node_of : (i : ℕ) (node : Node) → slice_get ns i ≡ Some node
        → IsNodeOf f topology engines node
    node_of i node s =
        let named : slice_get names i ≡ Some node.name =
        ap (λ (xs : List EventName). slice_get xs i) (sym node_names)
        ∙ map_there node_name ns i node s in
        let within = within_is names i node.name named in
        let long = placed.long in
        let number = there_is numbers i (omega (arith, within, long)) in
        let p = placed.each i number.0 node.name named number.1 in
        let n = nodes_at.each i number.0 node s number.1 in
        let same : n.spec.event ≡ p.declared =
        same_Some n.spec.event p.declared
        (sym (map_there spec_event f.events number.0 n.spec n.declared) ∙ p.stands) in
        record {
          number = number.0;
          spec = n.spec;
          declared = n.declared;
          at = subst (λ (d : Declared). IsDeclaredAt topology d node.name) (sym same) p.at;
          kind = n.kind;
        }

    engine_of : (i : ℕ) (engine : EngineSpec) → slice_get es i ≡ Some engine
        → IsEngineOf f topology names engine
    engine_of i engine s =
        let named : slice_get engines i ≡ Some engine.name =
        ap (λ (xs : List EventName). slice_get xs i) (sym engine_names)
        ∙ map_there engine_name es i engine s in
        let within = within_is engines i engine.name named in
        let long = others.long in
        let number = there_is serds i (omega (arith, within, long)) in
        let p = others.each i number.0 engine.name named number.1 in
        let n = engines_at.each i number.0 engine s number.1 in
        let same : n.spec.engine ≡ p.declared =
        same_Some n.spec.engine p.declared
        (sym (map_there spec_engine f.engines number.0 n.spec n.declared) ∙ p.stands) in
        record {
          number = number.0;
          is = n;
          at = subst (λ (d : Declared). IsDeclaredAt topology d engine.name) (sym same) p.at;
        }

    pub are_nodes : AreNodes f topology es ns
    are_nodes = record {
      ascend = ascends_named node_name ns
          ∙ ap (ascends_by is_before_name) node_names ∙ placed.ascend;
      each = λ i node s.
          subst (λ (xs : List EventName). IsNodeOf f topology xs node) (sym engine_names)
          (node_of i node s);
      all = λ k spec name s at.
          subst (λ (xs : List EventName). IsAmongNames xs name) (sym node_names)
          (placed.all k name (record {
            declared = spec.event;
            stands = map_there spec_event f.events k spec s;
            at = at;
          }));
    }

    pub are_engines : AreEngines f topology ns es
    are_engines = record {
      ascend = ascends_named engine_name es
          ∙ ap (ascends_by is_before_name) engine_names ∙ others.ascend;
      each = λ i engine s.
          subst (λ (xs : List EventName). IsEngineOf f topology xs engine) (sym node_names)
          (engine_of i engine s);
      all = λ k spec name s at.
          subst (λ (xs : List EventName). IsAmongNames xs name) (sym engine_names)
          (others.all k name (record {
            declared = spec.engine;
            stands = map_there spec_engine f.engines k spec s;
            at = at;
          }));
    }

    pub placed_events : length names ≤ 65536 → length engines ≤ 4294967295
        → ArePlacedEvents f topology ns es
    placed_events few some =
        let long = ap (λ (xs : List EventName). length xs) node_names in
        let wide = ap (λ (xs : List EventName). length xs) engine_names in
        let count = map_long node_name ns in
        let total = map_long engine_name es in
        record {
          nodes_are = are_nodes;
          engines_are = are_engines;
          few_nodes = omega (arith, few, long, count);
          few_engines = omega (arith, some, wide, total);
        }

-- ---- one more
push_at : {X : Type 0} (xs : List X) (x y : X) (j : ℕ) → slice_get (xs ++ x ∷ []) j ≡ Some y
    → ((slice_get xs j ≡ Some y) ⊎ ((j ≡ length xs) × (x ≡ y)))
push_at [] x y zero h = inr (refl, same_Some x y h)
push_at [] x y (suc j) h = none_is_not y h
push_at (z ∷ xs) x y zero h = inl h
push_at (z ∷ xs) x y (suc j) h = elim (push_at xs x y j h) [
  | inl own ↦ inl own
  | inr last ↦ let same = last.0 in inr (omega (arith, same), last.1)
]

-- names that are the first of others, and one more
module _ {X : Type 0} (key : X → EventName) (names : List EventName) (i : ℕ) (name : EventName)
    (stands : slice_get names i ≡ Some name) (xs : List X) (x : X)
    (before : map key xs ≡ take i names) (named : key x ≡ name) where
  pub names_more : map key (xs ++ x ∷ []) ≡ take (i + 1) names
  names_more =
      let less = within_is names i name stands in
      map_push key xs x ∙ (λ j. before j ++ named j ∷ [])
      ∙ ap (λ (y : EventName). take i names ++ y ∷ [])
      (sym (get_or_from_slice_get names i name name stands))
      ∙ sym (take_more names i name less)

  pub named_long : length xs ≡ i
  named_long =
      let less = within_is names i name stands in
      let taken = length-take i names in
      let whole = ap length before in
      let long = map_long key xs in
      omega (arith, less, taken, whole, long)

pub nodes_more : (f : CheckedFile) (engines names : List EventName) (numbers : List ℕ) (i k : ℕ)
    (name : EventName) (ns new : List Node) (node : Node)
    → AreNodesAt f engines names numbers i ns → slice_get names i ≡ Some name
    → slice_get numbers i ≡ Some k → node.name ≡ name → IsNodeAt f engines k node
    → new ≡ ns ++ node ∷ [] → AreNodesAt f engines names numbers (i + 1) new
nodes_more f engines names numbers i k name ns new node before stands number named is put =
    let long = named_long node_name names i name stands ns node before.names_are named in
    subst (AreNodesAt f engines names numbers (i + 1)) (sym put) (record {
      names_are = names_more node_name names i name stands ns node before.names_are named;
      each = λ j m y s t. elim (push_at ns node y j s) [
        | inl own ↦ before.each j m y own t
        | inr last ↦
            let same : k ≡ m = same_Some k m
            (sym number ∙ ap (slice_get numbers) (sym (last.0 ∙ long)) ∙ t) in
            subst (λ (n : ℕ). IsNodeAt f engines n y) same
            (subst (IsNodeAt f engines k) last.1 is)
      ];
    })

pub engines_more : (f : CheckedFile) (names engines : List EventName) (numbers : List ℕ) (i k : ℕ)
    (name : EventName) (es new : List EngineSpec) (engine : EngineSpec)
    → AreEnginesAt f names engines numbers i es → slice_get engines i ≡ Some name
    → slice_get numbers i ≡ Some k → engine.name ≡ name → IsEngineFor f names k engine
    → new ≡ es ++ engine ∷ [] → AreEnginesAt f names engines numbers (i + 1) new
engines_more f names engines numbers i k name es new engine before stands number named is put =
    let long = named_long engine_name engines i name stands es engine before.names_are named in
    subst (AreEnginesAt f names engines numbers (i + 1)) (sym put) (record {
      names_are = names_more engine_name engines i name stands es engine before.names_are named;
      each = λ j m y s t. elim (push_at es engine y j s) [
        | inl own ↦ before.each j m y own t
        | inr last ↦
            let same : k ≡ m = same_Some k m
            (sym number ∙ ap (slice_get numbers) (sym (last.0 ∙ long)) ∙ t) in
            subst (λ (n : ℕ). IsEngineFor f names n y) same
            (subst (IsEngineFor f names k) last.1 is)
      ];
    })

-- none yet
pub no_nodes : (f : CheckedFile) (engines names : List EventName) (numbers : List ℕ)
    (ns : List Node) → ns ≡ [] → AreNodesAt f engines names numbers 0 ns
no_nodes f engines names numbers ns none = subst (AreNodesAt f engines names numbers 0) (sym none)
    (record { names_are = refl; each = λ j m y s t. none_is_not y s })

pub no_engines : (f : CheckedFile) (names engines : List EventName) (numbers : List ℕ)
    (es : List EngineSpec) → es ≡ [] → AreEnginesAt f names engines numbers 0 es
no_engines f names engines numbers es none =
    subst (AreEnginesAt f names engines numbers 0) (sym none)
    (record { names_are = refl; each = λ j m y s t. none_is_not y s })
