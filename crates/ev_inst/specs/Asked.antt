-- How guards are gathered, effect by effect and instance by instance.
use Rattle.std.specs.Prelude.{◌≡◌, ◌+◌, ◌++◌, ℕ, suc, true, List, [], ◌∷◌, length, Option, Some}
use Rattle.std.specs.Prelude.{None, slice_get, map, filter, filter_map, ⊤, if◌then◌else◌}
use Rattle.fm_topo.specs.Topology.{Topology}
use Rattle.ev_tree.specs.Condition.{Condition}
use Rattle.ev_tree.specs.Pattern.{Pattern, view_pattern}
use Rattle.ev_check.specs.CheckedFile.{Linking}
use Rattle.ev_incidence.specs.Sets.{ascends, is_member}
use Rattle.ev_graph.specs.declared.nodes.Node.{Node}
use Rattle.ev_events.specs.Names.{iterators}
use Rattle.ev_events.specs.Asking.{condition_names}
use Rattle.ev_inst.specs.Gathering.{some_passes}
use Rattle.ev_inst.specs.Guarding.{Derivation, derivation, derivations, is_guarded_by}
use Rattle.ev_inst.specs.Instances.{AreCandidatesOf}
use Rattle.ev_inst.specs.Outcomes.{events_of, is_event_of, is_made}
use Rattle.ev_inst.specs.declared.guarding.AllGuards.{AllGuards}
use Rattle.ev_inst.specs.declared.guarding.RightSide.{RightSide}
use Rattle.ev_guards.specs.Watched.{Asked, Guarded, view_guard}
use Rattle.ev_guards.specs.declared.guards.GuardedNode.{GuardedNode}

abbrev pub asked_if : List (List ℕ) → List ℕ → Node → Pattern → Option Condition → Option Asked
asked_if vs b node q None = None
asked_if vs b node q (Some c) =
    Some (record { names = condition_names vs b q.parts node.name.path; condition = c })

-- what a pattern asks at a node, where it gives it; what several ask
abbrev pub asked_by : Topology → List (List ℕ) → List ℕ → Node → Pattern → Option Asked
asked_by topology vs b node q =
    if is_event_of topology vs b node q then asked_if vs b node q q.cond else None

abbrev pub asked_of : Topology → List (List ℕ) → List ℕ → Node → List Pattern → List Asked
asked_of topology vs b node qs = filter_map (asked_by topology vs b node) qs

-- numbers that ascend are those of the nodes that a pattern gives; the same of several patterns
pub record AreEventsOf (topology : Topology) (nodes : List Node) (vs : List (List ℕ))
    (b : List ℕ) (q : Pattern) (xs : List ℕ) : Type 0 where
  pub ascend : ascends xs ≡ true
  pub members : (n : ℕ) → is_member xs n
      ≡ some_passes (λ node. is_event_of topology vs b node q) (slice_get nodes n)

abbrev pub AreEventsOfAll : Topology → List Node → List (List ℕ) → List ℕ → List Pattern
    → List (List ℕ) → Type 0
AreEventsOfAll topology nodes vs b [] [] = ⊤
AreEventsOfAll topology nodes vs b (q ∷ qs) (xs ∷ more) =
    AreEventsOf topology nodes vs b q xs × AreEventsOfAll topology nodes vs b qs more
AreEventsOfAll topology nodes vs b _ _ = ⊥

-- lists of numbers have the number of a node just where each of some patterns gives it
abbrev pub AreGivenAt : Topology → List (List ℕ) → List ℕ → ℕ → Node → List Pattern
    → List (List ℕ) → Type 0
AreGivenAt topology vs b e node [] [] = ⊤
AreGivenAt topology vs b e node (q ∷ qs) (xs ∷ more) =
    (ascends xs ≡ true) × ((is_member xs e ≡ is_event_of topology vs b node q)
    × AreGivenAt topology vs b e node qs more)
AreGivenAt topology vs b e node _ _ = ⊥

-- the guard of the link of an instance to a node that patterns give, where the link is guarded
abbrev pub guard_if : Topology → List (List ℕ) → List ℕ → List Pattern → ℕ → Node
    → List Guarded
guard_if topology vs b qs at node =
    if is_guarded_by topology vs b qs node
    then record { instance = at; asked = asked_of topology vs b node qs } ∷ [] else []

-- the guards of the links to a node of instances, the first of which has a number
abbrev pub guards_to : Topology → Node → ℕ → List Derivation → List Guarded
guards_to topology node at [] = []
guards_to topology node at (d ∷ ds) =
    guard_if topology (iterators d.linking) d.binding d.linking.right at node
    ++ guards_to topology node (suc at) ds

-- a guard was added at a node
pub record AddsGuard (e : ℕ) (g : Guarded) (old new : List GuardedNode) : Type 0 where
  pub long : length new ≡ length old
  pub at : (o n : GuardedNode) → slice_get old e ≡ Some o → slice_get new e ≡ Some n
      → (n.path ≡ o.path)
      × (map view_guard n.guards.items ≡ map view_guard o.guards.items ++ g ∷ [])
  pub others : (i : ℕ) → (i ≡ e → ⊥) → slice_get new i ≡ slice_get old i

-- the right side of a propagation has the numbers of the nodes that each pattern gives
abbrev pub side_patterns : RightSide → List Pattern
side_patterns r = map view_pattern r.patterns.now

abbrev pub IsRightSide : RightSide → Type 0
IsRightSide r = AreEventsOfAll r.binding.now.topo.now r.nodes.now r.binding.now.names.now
    r.binding.now.instances.now (side_patterns r) r.given.now

-- the nodes that the patterns of a right side give, by their numbers
abbrev pub side_events : RightSide → List ℕ
side_events r = events_of r.binding.now.topo.now r.nodes.now r.binding.now.names.now
    r.binding.now.instances.now (side_patterns r)

abbrev pub side_guards : RightSide → Node → List Guarded
side_guards r node = guard_if r.binding.now.topo.now r.binding.now.names.now
    r.binding.now.instances.now (side_patterns r) r.instance node

-- at each of these numbers of nodes the guards of the link of the instance were added
pub record AddsGuards (r : RightSide) (es : List ℕ) (old new : List GuardedNode) : Type 0 where
  pub long : length new ≡ length old
  pub each : (e : ℕ) (node : Node) (o n : GuardedNode) → slice_get r.nodes.now e ≡ Some node
      → slice_get old e ≡ Some o → slice_get new e ≡ Some n → (n.path ≡ o.path)
      × (map view_guard n.guards.items ≡ map view_guard o.guards.items
      ++ (if is_member es e then side_guards r node else []))

-- the guards are those of these instances
pub record AreGuardsTo (topology : Topology) (nodes : List Node) (ds : List Derivation)
    (gs : List GuardedNode) : Type 0 where
  pub long : length gs ≡ length nodes
  pub each : (e : ℕ) (node : Node) (n : GuardedNode) → slice_get nodes e ≡ Some node
      → slice_get gs e ≡ Some n → (n.path ≡ node.name.path)
      × (map view_guard n.guards.items ≡ guards_to topology node 0 ds)

-- the guards of these instances were added, and their number
pub record AddsDerivations (topology : Topology) (nodes : List Node) (ds : List Derivation)
    (old new : AllGuards) : Type 0 where
  pub count : new.count ≡ old.count + length ds
  pub long : length new.nodes.items ≡ length old.nodes.items
  pub each : (e : ℕ) (node : Node) (o n : GuardedNode) → slice_get nodes e ≡ Some node
      → slice_get old.nodes.items e ≡ Some o → slice_get new.nodes.items e ≡ Some n
      → (n.path ≡ o.path) × (map view_guard n.guards.items
      ≡ map view_guard o.guards.items ++ guards_to topology node old.count ds)

-- the instances of a propagation with these bindings, in order
abbrev pub made_of : Topology → List Node → Linking → List (List ℕ) → List Derivation
made_of topology nodes l bs = map (derivation l) (filter (is_made topology nodes l) bs)

-- no node has a guard
abbrev pub AreBare : List Node → List GuardedNode → Type 0
AreBare [] [] = ⊤
AreBare (node ∷ nodes) (g ∷ gs) =
    (g.path ≡ node.name.path) × ((g.guards.items ≡ []) × AreBare nodes gs)
AreBare _ _ = ⊥

-- these are the guards of the instances of all propagations, with their number
pub record AreAllGuards (topology : Topology) (nodes : List Node) (ls : List Linking)
    (all : AllGuards) : Type 0 where
  pub candidates : List (List (List ℕ))
  pub candidates_are : AreCandidatesOf topology ls candidates
  pub count : all.count ≡ length (derivations topology nodes ls candidates)
  pub guards_are : AreGuardsTo topology nodes (derivations topology nodes ls candidates)
      all.nodes.items
