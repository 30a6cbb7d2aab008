-- The part of a graph that one root reaches, with numbers of its own.
use Rattle.std.specs.Prelude.{◌≡◌, ◌==◌, ◌&&◌, ◌<◌, ◌^◌, ℕ, suc, zero, true, false, nat_lt}
use Rattle.std.specs.Prelude.{List, [], ◌∷◌, length, map, slice_index, if◌then◌else◌}
use Rattle.std.specs.Prelude.{Option, Some, None}
use Rattle.std.specs.List.{filter}
use Rattle.ev_incidence.specs.Sets.{NodeSet, is_member, ascends}
use Rattle.ev_incidence.specs.Wiring.{Wiring, IsCauseOf}
use Rattle.ev_incidence.specs.Table.{row_at, IncidenceValue, IsIncidence}
use Rattle.ev_graph.specs.declared.instances.Link.{Link}
use Rattle.dx_sets.specs.Engine.{CutsOf}

-- the nodes of the part, ascending, so that a local number is a place among them; its instances,
-- likewise; and what its instances say of local numbers
pub record RegionValue : Type 0 where
  pub nodes : List ℕ
  pub places : List ℕ
  pub table : IncidenceValue

-- what is kept of a part: its nodes, its instances, and its incidence unless that is the graph's
pub record KeptRegion : Type 0 where
  pub nodes : List ℕ
  pub places : List ℕ
  pub own : Option IncidenceValue

-- the incidence of a part, where the graph has this one
abbrev pub table_over : IncidenceValue → Option IncidenceValue → IncidenceValue
table_over v None = v
table_over v (Some t) = t

abbrev pub region_over : IncidenceValue → KeptRegion → RegionValue
region_over v p = record { nodes = p.nodes; places = p.places; table = table_over v p.own }

-- the numbers below n
pub record AreNumbersBelow (n : ℕ) (xs : List ℕ) : Type 0 where
  pub count : length xs ≡ n
  pub each : (i : ℕ) → i < n → slice_index xs i ≡ i

-- it has all nodes and instances
pub record IsWholeOf (v : IncidenceValue) (p : KeptRegion) : Type 0 where
  pub nodes : AreNumbersBelow (length v.uses) p.nodes
  pub places : AreNumbersBelow (length v.causes) p.places
  pub own : p.own ≡ None

-- the nodes with these local numbers
abbrev pub nodes_at : List ℕ → List ℕ → List ℕ
nodes_at nodes locals = map (λ l. slice_index nodes l) locals

-- the members of a row that are nodes of the part, by their local numbers
pub record IsLocalRow (nodes members locals : List ℕ) : Type 0 where
  pub named : nodes_at nodes locals ≡ filter (is_member nodes) members
  pub below : (l : ℕ) → is_member locals l ≡ true → l < length nodes

-- the rows of the first n of these places, by local numbers
pub record AreLocalRows (n : ℕ) (rows : List (List ℕ)) (nodes places : List ℕ)
    (locals : List (List ℕ)) : Type 0 where
  pub count : length locals ≡ n
  pub each : (t : ℕ) → t < n
      → IsLocalRow nodes (row_at rows (slice_index places t)) (row_at locals t)

-- the incidence of these instances among these nodes, by local numbers
pub record IsLocalTable (v : IncidenceValue) (nodes places : List ℕ) (made : IncidenceValue) : Type
    0
  where
    pub causes : AreLocalRows (length places) v.causes nodes places made.causes
    pub effects : AreLocalRows (length places) v.effects nodes places made.effects
    pub n : made.n ≡ map (λ j. slice_index v.n j) places
    pub k : made.k ≡ map (λ j. slice_index v.k j) places
    pub count : length made.uses ≡ length nodes
    pub incidence : IsIncidence made

-- the part of what the root reaches: of each of its nodes the instances that it is a cause of, and
-- of each of its instances all effects
pub record IsRegionOf (w : Wiring) (root : ℕ) (p : RegionValue) : Type 0 where
  pub nodes_ascend : ascends p.nodes ≡ true
  pub places_ascend : ascends p.places ≡ true
  pub few_nodes : length p.nodes < 2 ^ 32
  pub few_places : length p.places < 2 ^ 32
  pub incidence : IsIncidence p.table
  pub node_count : length p.table.uses ≡ length p.nodes
  pub place_count : length p.table.causes ≡ length p.places
  pub root_in : is_member p.nodes root ≡ true
  pub causes : (t : ℕ) → t < length p.places
      → IsLocalRow p.nodes (w.causes (slice_index p.places t)) (row_at p.table.causes t)
  pub effects : (t : ℕ) → t < length p.places
      → IsLocalRow p.nodes (w.effects (slice_index p.places t)) (row_at p.table.effects t)
  pub n : (t : ℕ) → t < length p.places → slice_index p.table.n t ≡ w.n (slice_index p.places t)
  pub k : (t : ℕ) → t < length p.places → slice_index p.table.k t ≡ w.k (slice_index p.places t)
  pub out : (e j : ℕ) → is_member p.nodes e ≡ true → is_member (w.causes j) e ≡ true
      → is_member p.places j ≡ true
  pub into : (j e : ℕ) → is_member p.places j ≡ true → is_member (w.effects j) e ≡ true
      → is_member p.nodes e ≡ true

-- it has nodes and instances of the incidence alone
pub record IsPartOf (v : IncidenceValue) (p : RegionValue) : Type 0 where
  pub nodes : (e : ℕ) → is_member p.nodes e ≡ true → e < length v.uses
  pub places : (j : ℕ) → is_member p.places j ≡ true → j < length v.causes

-- a set of nodes, by local numbers
abbrev pub local : List ℕ → NodeSet → NodeSet
local nodes X l = nat_lt l (length nodes) && X (slice_index nodes l)

-- a set of local numbers, by nodes
abbrev pub lifted : List ℕ → NodeSet → NodeSet
lifted [] Z e = false
lifted (x ∷ xs) Z e = if x == e then Z zero else lifted xs (λ l. Z (suc l)) e

-- which links are cut, by local numbers
pub record AreLocalCuts (p : RegionValue) (cut local_cut : CutsOf) : Type 0 where
  pub each : (t l : ℕ) → t < length p.places → is_member (row_at p.table.effects t) l ≡ true
      → local_cut t l ≡ cut (slice_index p.places t) (slice_index p.nodes l)

-- a link by local numbers; a link of which the part has not both the instance and the effect
pub record IsLinkOf (nodes places : List ℕ) (link local : Link) : Type 0 where
  pub place_in : local.instance < length places
  pub place_is : slice_index places local.instance ≡ link.instance
  pub node_in : local.effect < length nodes
  pub node_is : slice_index nodes local.effect ≡ link.effect

pub record IsNoLinkOf (nodes places : List ℕ) (link : Link) : Type 0 where
  pub each : (t l : ℕ) → t < length places → l < length nodes
      → slice_index places t ≡ link.instance → slice_index nodes l ≡ link.effect → ⊥

-- each instance with an effect needs a cause
pub record AreCounted (w : Wiring) : Type 0 where
  pub each : (j e : ℕ) → is_member (w.effects j) e ≡ true → 0 < w.k j

-- numbers that rise from each cause to each effect
pub record AreRising (w : Wiring) (rank : ℕ → ℕ) : Type 0 where
  pub each : (x y : ℕ) → IsCauseOf w x y → rank x < rank y
