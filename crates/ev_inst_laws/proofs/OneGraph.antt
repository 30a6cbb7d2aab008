-- A checked file and its copies have one graph over a topology.
use Rattle.std.proofs.Common.{◌≡◌, ℕ, Bool, true, List, map, length, slice_get}
use Rattle.std.proofs.Common.{Some, None, refl, sym, ap, ◌∙◌, subst}
use Rattle.std.specs.Ordering.{is_lt}
use Rattle.std.specs.Cmp.{tied_itself}
use Rattle.std.proofs.lemmas.Bool.{false≢true}
use Rattle.std.proofs.lemmas.Option.{same_Some}
use Rattle.fm_name.specs.Events.{event_cmp_total}
use Rattle.fm_name.specs.Path.{names_of}
use Rattle.fm_name.specs.declared.events.EventName.{EventName}
use Rattle.fm_topo.specs.Topology.{Topology}
use Rattle.ev_tree.specs.declared.tree.Declared.{Declared}
use Rattle.ev_check.specs.CheckedFile.{CheckedFile, IsCopyOf, Linking, view_prop}
use Rattle.ev_check.specs.Lawful.{spec_event}
use Rattle.ev_check.specs.Sound.{IsSound}
use Rattle.ev_check.specs.declared.checked.DeclKind.{DeclKind}
use Rattle.ev_check.specs.declared.checked.DeclKind.TheVariants as kinds
use Rattle.ev_check.specs.declared.checked.EventSpec.{EventSpec}
use Rattle.ev_check.specs.declared.checked.SerdSpec.{SerdSpec}
use Rattle.ev_graph.specs.Lawful.{GraphValue}
use Rattle.ev_incidence.specs.Sets.{ascends_by}
use Rattle.ev_graph.specs.declared.nodes.Node.{Node}
use Rattle.ev_graph.specs.declared.nodes.NodeKind.{NodeKind}
use Rattle.ev_graph.specs.declared.nodes.NodeKind.TheVariants as nodes
use Rattle.ev_graph.specs.declared.nodes.EngineSpec.{EngineSpec}
use Rattle.ev_events.specs.Placed.{IsAmongNames, IsDeclaredAt, is_before_name}
use Rattle.ev_events.specs.Nodes.{AreEngines, AreNodes, IsEngineAt, IsKindAt, engine_name}
use Rattle.ev_events.specs.Nodes.{node_name, spec_engine}
use Rattle.ev_events.proofs.Declaring.{ascends_named, map_long}
use Rattle.ev_events.proofs.Finding.{before_trans}
use Rattle.ev_events.proofs.Places.{get_map, map_there}
use Rattle.ev_inst.specs.Instances.{AreCandidatesOf, IsGraphOf, instances_of_all}
use Rattle.ev_inst.specs.Instances.{skipped_of_all}
use Rattle.ev_inst.proofs.Deriving.{same_candidates}
use Rattle.ev_inst.proofs.Numbering.{once}
use Rattle.ev_inst_laws.specs.Once.{DeclaresOnce}
use Rattle.ev_inst_laws.proofs.Once.{declares_once}
use Rattle.ev_inst_laws.proofs.Rising.{AreWithin, one_list, same_items}

-- ---- names
never_before : (a : EventName) → is_before_name a a ≡ true → ⊥
never_before a h = false≢true (ap is_lt (sym (tied_itself event_cmp_total a)) ∙ h)

names_one : (xs ys : List EventName) → ascends_by is_before_name xs ≡ true
    → ascends_by is_before_name ys ≡ true → AreWithin xs ys → AreWithin ys xs → xs ≡ ys
names_one xs ys up down own other =
    one_list is_before_name before_trans never_before xs ys up down own other

-- what is declared at a name is determined
declared_one : (topology : Topology) (d e : Declared) (a b : EventName) → a ≡ b
    → IsDeclaredAt topology d a → IsDeclaredAt topology e b → d ≡ e
declared_one topology d e a b same at other =
    let class : d.class ≡ e.class =
    sym at.class ∙ ap (λ (n : EventName). n.class) same ∙ other.class in
    let names : d.names ≡ e.names =
    sym at.named ∙ ap (λ (n : EventName). names_of n.path) same ∙ other.named in
    λ i. record { class = class i; names = names i }

copied_back : (f copy : CheckedFile) → IsCopyOf f copy → IsCopyOf copy f
copied_back f copy h = record {
  events_are = sym h.events_are;
  engines_are = sym h.engines_are;
  props_are = sym h.props_are;
}

-- the names of the nodes of the one are names of nodes of the other, and so of engines
nodes_within : (f copy : CheckedFile) (topology : Topology) → IsCopyOf f copy
    → (ns ms : List Node) (es gs : List EngineSpec) → AreNodes f topology es ns
    → AreNodes copy topology gs ms → AreWithin (map node_name ns) (map node_name ms)
nodes_within f copy topology same ns ms es gs own other = λ i name s.
    let node = get_map node_name ns i name s in
    let is = own.each i node.0 node.1 in
    let there = other.all is.number is.spec node.0.name
    (ap (λ (l : List EventSpec). slice_get l is.number) same.events_are ∙ is.declared) is.at in
    let found = subst (λ (n : EventName). IsAmongNames (map node_name ms) n) node.2 there in
    (found.place, found.stands)

engines_within : (f copy : CheckedFile) (topology : Topology) → IsCopyOf f copy
    → (ns ms : List Node) (es gs : List EngineSpec) → AreEngines f topology ns es
    → AreEngines copy topology ms gs → AreWithin (map engine_name es) (map engine_name gs)
engines_within f copy topology same ns ms es gs own other = λ i name s.
    let engine = get_map engine_name es i name s in
    let is = own.each i engine.0 engine.1 in
    let there = other.all is.number is.is.spec engine.0.name
    (ap (λ (l : List SerdSpec). slice_get l is.number) same.engines_are ∙ is.is.declared) is.at in
    let found = subst (λ (n : EventName). IsAmongNames (map engine_name gs) n) engine.2 there in
    (found.place, found.stands)

-- ---- the kind of a node is determined
module _ (specs : List SerdSpec) (engines : List EventName) (path : List ℕ)
    (up : ascends_by is_before_name engines ≡ true) where
  fault_is : (fit : ℕ) (retire : Bool) (k : NodeKind)
      → IsKindAt specs engines path (kinds.Fault fit retire) k → k ≡ nodes.Fault fit retire
  fault_is fit retire (nodes.Fault rate gone) h = λ i. nodes.Fault (h.0 i) (h.1 i)
  fault_is fit retire (nodes.Defect rate gone) h = absurd h
  fault_is fit retire (nodes.Upset engine) h = absurd h
  fault_is fit retire nodes.Inner h = absurd h
  fault_is fit retire (nodes.Report within) h = absurd h

  defect_is : (fit : ℕ) (retire : Bool) (k : NodeKind)
      → IsKindAt specs engines path (kinds.Defect fit retire) k → k ≡ nodes.Defect fit retire
  defect_is fit retire (nodes.Fault rate gone) h = absurd h
  defect_is fit retire (nodes.Defect rate gone) h = λ i. nodes.Defect (h.0 i) (h.1 i)
  defect_is fit retire (nodes.Upset engine) h = absurd h
  defect_is fit retire nodes.Inner h = absurd h
  defect_is fit retire (nodes.Report within) h = absurd h

  inner_is : (k : NodeKind) → IsKindAt specs engines path kinds.Inner k → k ≡ nodes.Inner
  inner_is (nodes.Fault rate gone) h = absurd h
  inner_is (nodes.Defect rate gone) h = absurd h
  inner_is (nodes.Upset engine) h = absurd h
  inner_is nodes.Inner h = refl
  inner_is (nodes.Report within) h = absurd h

  report_is : (within : ℕ) (k : NodeKind)
      → IsKindAt specs engines path (kinds.Report within) k → k ≡ nodes.Report within
  report_is within (nodes.Fault rate gone) h = absurd h
  report_is within (nodes.Defect rate gone) h = absurd h
  report_is within (nodes.Upset engine) h = absurd h
  report_is within nodes.Inner h = absurd h
  report_is within (nodes.Report time) h = ap nodes.Report h

  bare_is : (k : NodeKind) → IsKindAt specs engines path (kinds.Upset None) k
      → k ≡ nodes.Upset None
  bare_is (nodes.Fault rate gone) h = absurd h
  bare_is (nodes.Defect rate gone) h = absurd h
  bare_is (nodes.Upset None) h = refl
  bare_is (nodes.Upset (Some number)) h = absurd h
  bare_is nodes.Inner h = absurd h
  bare_is (nodes.Report within) h = absurd h

  upset_is : (e : ℕ) (k : NodeKind) → IsKindAt specs engines path (kinds.Upset (Some e)) k
      → (number : ℕ) × (k ≡ nodes.Upset (Some number)) × IsEngineAt specs engines e path number
  upset_is e (nodes.Fault rate gone) h = absurd h
  upset_is e (nodes.Defect rate gone) h = absurd h
  upset_is e (nodes.Upset None) h = absurd h
  upset_is e (nodes.Upset (Some number)) h = (number, refl, h)
  upset_is e nodes.Inner h = absurd h
  upset_is e (nodes.Report within) h = absurd h

  engine_number : (e m n : ℕ) → IsEngineAt specs engines e path m
      → IsEngineAt specs engines e path n → m ≡ n
  engine_number e m n a b =
      let same : a.spec ≡ b.spec = same_Some a.spec b.spec (sym a.declared ∙ b.declared) in
      let named : SerdSpec → EventName = λ s. record { class = s.engine.class; path = path } in
      once engines up m n (named a.spec) a.stands
      (b.stands ∙ ap (λ (s : SerdSpec). Some (named s)) (sym same))

  pub kind_one : (d : DeclKind) (k l : NodeKind) → IsKindAt specs engines path d k
      → IsKindAt specs engines path d l → k ≡ l
  kind_one (kinds.Fault fit retire) k l a b =
      fault_is fit retire k a ∙ sym (fault_is fit retire l b)
  kind_one (kinds.Defect fit retire) k l a b =
      defect_is fit retire k a ∙ sym (defect_is fit retire l b)
  kind_one (kinds.Upset None) k l a b = bare_is k a ∙ sym (bare_is l b)
  kind_one (kinds.Upset (Some e)) k l a b =
      let one = upset_is e k a in
      let two = upset_is e l b in
      one.1 ∙ ap (λ (n : ℕ). nodes.Upset (Some n)) (engine_number e one.0 two.0 one.2 two.2)
      ∙ sym two.1
  kind_one kinds.Inner k l a b = inner_is k a ∙ sym (inner_is l b)
  kind_one (kinds.Report within) k l a b = report_is within k a ∙ sym (report_is within l b)

-- ---- both lists
module _ (f copy : CheckedFile) (topology : Topology) (declares : DeclaresOnce f)
    (same : IsCopyOf f copy) (ns ms : List Node) (es gs : List EngineSpec)
    (own : AreNodes f topology es ns) (other : AreNodes copy topology gs ms)
    (engines : AreEngines f topology ns es) (others : AreEngines copy topology ms gs) where
  node_names : map node_name ns ≡ map node_name ms
  node_names =
      names_one (map node_name ns) (map node_name ms)
      (sym (ascends_named node_name ns) ∙ own.ascend)
      (sym (ascends_named node_name ms) ∙ other.ascend)
      (nodes_within f copy topology same ns ms es gs own other)
      (nodes_within copy f topology (copied_back f copy same) ms ns gs es other own)

  engines_up : ascends_by is_before_name (map engine_name es) ≡ true
  engines_up = sym (ascends_named engine_name es) ∙ engines.ascend

  engine_names : map engine_name es ≡ map engine_name gs
  engine_names =
      names_one (map engine_name es) (map engine_name gs) engines_up
      (sym (ascends_named engine_name gs) ∙ others.ascend)
      (engines_within f copy topology same ns ms es gs engines others)
      (engines_within copy f topology (copied_back f copy same) ms ns gs es others engines)

  named_at : {X : Type 0} (name : X → EventName) (xs ys : List X) → map name xs ≡ map name ys
      → (i : ℕ) (x y : X) → slice_get xs i ≡ Some x → slice_get ys i ≡ Some y → name x ≡ name y
  named_at name xs ys names i x y s t =
      same_Some (name x) (name y) (sym (map_there name xs i x s)
      ∙ ap (λ (l : List EventName). slice_get l i) names ∙ map_there name ys i y t)

  node_one : (i : ℕ) (n m : Node) → slice_get ns i ≡ Some n → slice_get ms i ≡ Some m → n ≡ m
  node_one i n m s t =
      let a = own.each i n s in
      let b = other.each i m t in
      let name : n.name ≡ m.name = named_at node_name ns ms node_names i n m s t in
      let event : a.spec.event ≡ b.spec.event =
      declared_one topology a.spec.event b.spec.event n.name m.name name a.at b.at in
      let declared : slice_get f.events b.number ≡ Some b.spec =
      ap (λ (l : List EventSpec). slice_get l b.number) (sym same.events_are) ∙ b.declared in
      let number : a.number ≡ b.number =
      declares.events a.number b.number a.spec.event
      (map_there spec_event f.events a.number a.spec a.declared)
      (map_there spec_event f.events b.number b.spec declared ∙ ap Some (sym event)) in
      let spec : a.spec ≡ b.spec =
      same_Some a.spec b.spec
      (sym a.declared ∙ ap (λ (k : ℕ). slice_get f.events k) number ∙ declared) in
      let of_engines : IsKindAt f.engines (map engine_name gs) m.name.path b.spec.kind m.kind =
      subst (λ (l : List SerdSpec). IsKindAt l (map engine_name gs) m.name.path b.spec.kind m.kind)
      same.engines_are b.kind in
      let of_names : IsKindAt f.engines (map engine_name es) m.name.path b.spec.kind m.kind =
      subst (λ (l : List EventName). IsKindAt f.engines l m.name.path b.spec.kind m.kind)
      (sym engine_names) of_engines in
      let of_path : IsKindAt f.engines (map engine_name es) n.name.path b.spec.kind m.kind =
      subst (λ (l : EventName). IsKindAt f.engines (map engine_name es) l.path b.spec.kind m.kind)
      (sym name) of_names in
      let of_spec : IsKindAt f.engines (map engine_name es) n.name.path a.spec.kind m.kind =
      subst (λ (l : EventSpec). IsKindAt f.engines (map engine_name es) n.name.path l.kind m.kind)
      (sym spec) of_path in
      let kind : n.kind ≡ m.kind =
      kind_one f.engines (map engine_name es) n.name.path engines_up a.spec.kind n.kind m.kind
      a.kind of_spec in
      λ j. record { name = name j; kind = kind j }

  engine_one : (i : ℕ) (n m : EngineSpec) → slice_get es i ≡ Some n → slice_get gs i ≡ Some m
      → n ≡ m
  engine_one i n m s t =
      let a = engines.each i n s in
      let b = others.each i m t in
      let name : n.name ≡ m.name = named_at engine_name es gs engine_names i n m s t in
      let engine : a.is.spec.engine ≡ b.is.spec.engine =
      declared_one topology a.is.spec.engine b.is.spec.engine n.name m.name name a.at b.at in
      let declared : slice_get f.engines b.number ≡ Some b.is.spec =
      ap (λ (l : List SerdSpec). slice_get l b.number) (sym same.engines_are) ∙ b.is.declared in
      let number : a.number ≡ b.number =
      declares.engines a.number b.number a.is.spec.engine
      (map_there spec_engine f.engines a.number a.is.spec a.is.declared)
      (map_there spec_engine f.engines b.number b.is.spec declared ∙ ap Some (sym engine)) in
      let spec : a.is.spec ≡ b.is.spec =
      same_Some a.is.spec b.is.spec
      (sym a.is.declared ∙ ap (λ (k : ℕ). slice_get f.engines k) number ∙ declared) in
      let event : a.is.event ≡ b.is.event =
      same_Some a.is.event b.is.event
      (sym a.is.trips ∙ ap (λ (l : SerdSpec). slice_get f.events l.trip) spec
      ∙ ap (λ (l : List EventSpec). slice_get l b.is.spec.trip) (sym same.events_are)
      ∙ b.is.trips) in
      let trips : EventSpec → EventName → EventName = λ e l.
      record { class = e.event.class; path = l.path } in
      let stands : slice_get (map node_name ns) m.trip ≡ Some (trips a.is.event n.name) =
      ap (λ (l : List EventName). slice_get l m.trip) node_names ∙ b.is.stands
      ∙ ap (λ (e : EventSpec). Some (trips e m.name)) (sym event)
      ∙ ap (λ (l : EventName). Some (trips a.is.event l)) (sym name) in
      let trip : n.trip ≡ m.trip =
      once (map node_name ns) (sym (ascends_named node_name ns) ∙ own.ascend) n.trip m.trip
      (trips a.is.event n.name) a.is.stands stands in
      let least : n.n ≡ m.n = a.is.n ∙ ap (λ (l : SerdSpec). l.n) spec ∙ sym b.is.n in
      let within : n.t ≡ m.t = a.is.t ∙ ap (λ (l : SerdSpec). l.t) spec ∙ sym b.is.t in
      λ j. record { name = name j; n = least j; t = within j; trip = trip j }

  pub nodes_one : ns ≡ ms
  nodes_one =
      same_items ns ms (sym (map_long node_name ns) ∙ ap length node_names ∙ map_long node_name ms)
      node_one

  pub engines_one : es ≡ gs
  engines_one =
      same_items es gs
      (sym (map_long engine_name es) ∙ ap length engine_names ∙ map_long engine_name gs) engine_one

-- ---- the whole graph
pub graphs_one : (f copy : CheckedFile) (topology : Topology) (a b : GraphValue) (m n : ℕ)
    → IsSound f → IsCopyOf f copy → IsGraphOf f topology a m → IsGraphOf copy topology b n
    → (a ≡ b) × (m ≡ n)
graphs_one f copy topology a b m n sound same one other =
    let declares = declares_once f sound in
    let ns : a.nodes ≡ b.nodes =
    nodes_one f copy topology declares same a.nodes b.nodes a.engines b.engines one.nodes
    other.nodes one.engines other.engines in
    let es : a.engines ≡ b.engines =
    engines_one f copy topology declares same a.nodes b.nodes a.engines b.engines one.nodes
    other.nodes one.engines other.engines in
    let props : map view_prop f.props ≡ map view_prop copy.props = sym same.props_are in
    let all : AreCandidatesOf topology (map view_prop f.props) other.candidates =
    subst (λ (ls : List Linking). AreCandidatesOf topology ls other.candidates) same.props_are
    other.all in
    let bindings : one.candidates ≡ other.candidates =
    same_candidates topology (map view_prop f.props) one.candidates other.candidates one.all all in
    let instances : a.instances ≡ b.instances =
    one.instances ∙ (λ i. instances_of_all topology (ns i) (props i) (bindings i))
    ∙ sym other.instances in
    let count : m ≡ n =
    one.count ∙ (λ i. skipped_of_all topology (ns i) (props i) (bindings i)) ∙ sym other.count in
    ((λ i. record { nodes = ns i; engines = es i; instances = instances i }), count)
