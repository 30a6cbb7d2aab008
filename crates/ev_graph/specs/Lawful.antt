-- What a graph is, and the refusals of what is none.
use Rattle.std.specs.Prelude.{◌≡◌, ◌⊎◌, ◌^◌, ◌+◌, ◌<◌, ◌≤◌, ◌&&◌, not, ℕ, Bool, true, false}
use Rattle.std.specs.Prelude.{nat_lt, nat_le, List, Option, Some, None, slice_get, slice_index}
use Rattle.std.specs.Prelude.{length, map}
use Rattle.std.specs.List.{list_all, sum_by}
use Rattle.std.specs.Ordering.{is_lt}
use Rattle.fm_name.specs.Events.{event_cmp}
use Rattle.fm_name.specs.declared.events.EventName.{EventName}
use Rattle.ev_incidence.specs.Sets.{ascends, ascends_by, is_member}
use Rattle.ev_incidence.specs.Table.{IncidenceValue, IsIncidence}
use Rattle.ev_incidence.specs.Ranking.{AreRanks}
use Rattle.ev_graph.specs.Kinds.{is_root_node, is_report_node, is_upset_node, has_limits}
use Rattle.ev_graph.specs.Kinds.{has_engine_below}
use Rattle.ev_incidence.specs.Wiring.{Wiring, IsCauseOf, HasChain, ReachesItself}
use Rattle.ev_graph.specs.Wired.{wiring}
use Rattle.ev_graph.specs.declared.nodes.Node.{Node}
use Rattle.ev_graph.specs.declared.nodes.EngineSpec.{EngineSpec}
use Rattle.ev_graph.specs.declared.instances.Instance.{Instance}
use Rattle.ev_graph.specs.declared.fault.GraphFault.{GraphFault}
use Rattle.ev_graph.specs.declared.fault.GraphFault.TheVariants.{TooManyNodes, TooManyLinks, Order}
use Rattle.ev_graph.specs.declared.fault.GraphFault.TheVariants.{Range, Kinds, Counts, Cyclic}
use Rattle.ev_graph.specs.declared.fault.GraphFault.TheVariants.{NoMemory}

pub record GraphValue : Type 0 where
  pub nodes : List Node
  pub engines : List EngineSpec
  pub instances : List Instance

abbrev pub links_of : Instance → ℕ
links_of i = length i.causes + length i.effects

-- the causes and effects of all instances
abbrev pub links : List Instance → ℕ
links is = sum_by links_of is

-- order
abbrev pub is_before_node : Node → Node → Bool
is_before_node a b = is_lt (event_cmp a.name b.name)

abbrev pub is_before_engine : EngineSpec → EngineSpec → Bool
is_before_engine a b = is_lt (event_cmp a.name b.name)

abbrev pub is_ascending : Instance → Bool
is_ascending i = ascends i.causes && ascends i.effects

abbrev pub are_ascending : GraphValue → Bool
are_ascending g =
    ascends_by is_before_node g.nodes
    && (ascends_by is_before_engine g.engines && list_all is_ascending g.instances)

-- range
abbrev pub are_below : ℕ → List ℕ → Bool
are_below n xs = list_all (λ e. nat_lt e n) xs

abbrev pub is_in_range : ℕ → Instance → Bool
is_in_range n i = are_below n i.causes && are_below n i.effects

abbrev pub are_in_range : GraphValue → Bool
are_in_range g =
    list_all (λ node. has_engine_below (length g.engines) node.kind) g.nodes
    && (list_all (λ engine. nat_lt engine.trip (length g.nodes)) g.engines
    && list_all (is_in_range (length g.nodes)) g.instances)

-- kinds: no report is a cause, no root is an effect, and each trip is a report
abbrev pub keeps_kinds : List Node → Instance → Bool
keeps_kinds nodes i =
    list_all (λ e. not (is_report_node nodes e)) i.causes
    && list_all (λ e. not (is_root_node nodes e)) i.effects

abbrev pub keep_kinds : GraphValue → Bool
keep_kinds g =
    list_all (λ engine. is_report_node g.nodes engine.trip) g.engines
    && list_all (keeps_kinds g.nodes) g.instances

-- some upset reaches a trip
pub record TripsUpset (nodes : List Node) (engines : List EngineSpec) (w : Wiring) : Type 0 where
  pub upset : ℕ
  pub at : ℕ
  pub engine : EngineSpec
  pub stands : slice_get engines at ≡ Some engine
  pub is_upset : is_upset_node nodes upset ≡ true
  pub reached : HasChain w upset engine.trip

-- counts and limits
abbrev pub has_counts : Instance → Bool
has_counts i =
    nat_le i.n (length i.effects)
    && (nat_lt 0 i.k && (nat_le i.k (length i.causes) && nat_lt 0 (length i.effects)))

abbrev pub has_engine_limits : EngineSpec → Bool
has_engine_limits e =
    nat_lt 0 e.n && (nat_le e.n 1024 && (nat_lt 0 e.t && nat_le e.t (2 ^ 60)))

abbrev pub are_counted : GraphValue → Bool
are_counted g =
    list_all (λ node. has_limits node.kind) g.nodes
    && (list_all has_engine_limits g.engines && list_all has_counts g.instances)

-- the value is inside the limits on size; it is sorted and in range as well; its kinds fit as well
pub record IsSmall (g : GraphValue) : Type 0 where
  pub few_nodes : length g.nodes ≤ 65536
  pub few_links : links g.instances ≤ 1048576

pub record IsSorted (g : GraphValue) : Type 0 where
  pub small : IsSmall g
  pub ascending : are_ascending g ≡ true

pub record IsNumbered (g : GraphValue) : Type 0 where
  pub sorted : IsSorted g
  pub in_range : are_in_range g ≡ true

pub record IsKindred (g : GraphValue) : Type 0 where
  pub numbered : IsNumbered g
  pub kinds : keep_kinds g ≡ true
  pub apart : TripsUpset g.nodes g.engines (wiring g.instances) → ⊥

pub record IsCountedGraph (g : GraphValue) : Type 0 where
  pub kindred : IsKindred g
  pub counts : are_counted g ≡ true

-- a graph: all of this, and numbers that rise from each cause to each effect, so that there is no
-- cycle
pub record IsGraph (g : GraphValue) : Type 0 where
  pub counted : IsCountedGraph g
  pub rank : ℕ → ℕ
  pub rises : (x y : ℕ) → IsCauseOf (wiring g.instances) x y → rank x < rank y

-- which refusal comes: what comes before it holds, and what it is of doesn't
abbrev pub IsRefused : GraphFault → GraphValue → Type 0
IsRefused TooManyNodes g = 65536 < length g.nodes
IsRefused TooManyLinks g = (length g.nodes ≤ 65536) × (1048576 < links g.instances)
IsRefused Order g = IsSmall g × (are_ascending g ≡ false)
IsRefused Range g = IsSorted g × (are_in_range g ≡ false)
IsRefused Kinds g = IsNumbered g
    × ((keep_kinds g ≡ false) ⊎ TripsUpset g.nodes g.engines (wiring g.instances))
IsRefused Counts g = IsKindred g × (are_counted g ≡ false)
IsRefused Cyclic g = IsCountedGraph g × ReachesItself (wiring g.instances)
IsRefused NoMemory g = Unit {0}

-- the incidence of these instances among so many nodes
pub record IsIncidenceOf (count : ℕ) (is : List Instance) (v : IncidenceValue) : Type 0 where
  pub causes : v.causes ≡ map (λ i. i.causes) is
  pub effects : v.effects ≡ map (λ i. i.effects) is
  pub n : v.n ≡ map (λ i. i.n) is
  pub k : v.k ≡ map (λ i. i.k) is
  pub nodes : length v.uses ≡ count
  pub incidence : IsIncidence v

-- what stands behind a graph
pub record IsBuilt (g : GraphValue) (ranks : List ℕ) (v : IncidenceValue) : Type 0 where
  pub graph : IsGraph g
  pub table : IsIncidenceOf (length g.nodes) g.instances v
  pub ranked : AreRanks v ranks

-- what a search for a name answers
abbrev pub name_in : Option Node → Option EventName
name_in None = None
name_in (Some node) = Some node.name

abbrev pub IsNodeNamed : List Node → EventName → Option ℕ → Type 0
IsNodeNamed nodes name None = (at : ℕ) → name_in (slice_get nodes at) ≡ Some name → ⊥
IsNodeNamed nodes name (Some at) = name_in (slice_get nodes at) ≡ Some name

-- the numbers of the upsets, and no other
pub record AreAllUpsets (nodes : List Node) (xs : List ℕ) : Type 0 where
  pub each : (i : ℕ) → i < length xs → is_upset_node nodes (slice_index xs i) ≡ true
  pub all : (e : ℕ) → is_upset_node nodes e ≡ true → is_member xs e ≡ true
