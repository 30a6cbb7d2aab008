-- The guarded links of a graph, with what they ask of payloads.
use Rattle.std.specs.Prelude.{◌≡◌, ◌≤◌, ◌+◌, ◌^◌, ◌&&◌, ℕ, suc, Bool, true, not, ◌==◌, nat_lt, List}
use Rattle.std.specs.Prelude.{[], ◌∷◌, ◌++◌, length, Option, Some, None, slice_get, map, filter}
use Rattle.std.specs.List.{list_all, list_any}
use Rattle.fm_topo.specs.Topology.{Topology}
use Rattle.ev_tree.specs.Condition.{view_cond}
use Rattle.ev_expr.specs.Conditions.{holds}
use Rattle.ev_expr.specs.declared.settings.Prop.{Prop}
use Rattle.ev_graph.specs.Lawful.{GraphValue, links}
use Rattle.ev_incidence.specs.Sets.{is_member}
use Rattle.ev_graph.specs.Wired.{wiring}
use Rattle.ev_graph.specs.declared.instances.Link.{Link}
use Rattle.ev_guards.specs.declared.guards.Question.{Question}
use Rattle.ev_guards.specs.declared.guards.Guard.{Guard}
use Rattle.ev_guards.specs.declared.guards.GuardedNode.{GuardedNode}

-- the topology, and for each node its path and the guards of the links to it
pub record GuardsValue : Type 0 where
  pub topology : Topology
  pub nodes : List GuardedNode

-- the guards of the links to a node, where there is one
abbrev pub guards_if_any : Option GuardedNode → List Guard
guards_if_any None = []
guards_if_any (Some n) = n.guards.items

abbrev pub is_guard_of : ℕ → Guard → Bool
is_guard_of i g = g.instance == i

-- the link of an instance and an effect is guarded
abbrev pub is_guarded : GuardsValue → ℕ → ℕ → Bool
is_guarded v i e = list_any (is_guard_of i) (guards_if_any (slice_get v.nodes e))

-- the guarded links to nodes, the first of which has a number; all guarded links
abbrev pub link_to : ℕ → Guard → Link
link_to e g = record { instance = g.instance; effect = e }

abbrev pub links_to : ℕ → List GuardedNode → List Link
links_to e [] = []
links_to e (n ∷ ns) = map (link_to e) n.guards.items ++ links_to (suc e) ns

abbrev pub guarded_links : GuardsValue → List Link
guarded_links v = links_to 0 v.nodes

-- the instance of a guard, and of a link, has a number of 32 bits
abbrev pub has_instance_number : Guard → Bool
has_instance_number g = nat_lt g.instance (2 ^ 32)

abbrev pub is_numbered_link : Link → Bool
is_numbered_link l = nat_lt l.instance (2 ^ 32)

-- how many guards some nodes have
abbrev pub guard_count : List GuardedNode → ℕ
guard_count [] = 0
guard_count (n ∷ ns) = length n.guards.items + guard_count ns

-- few links are guarded, of instances that have numbers of 32 bits
abbrev pub has_few_links : GuardsValue → Bool
has_few_links v =
    nat_lt (length (guarded_links v)) (2 ^ 32) && list_all is_numbered_link (guarded_links v)

-- the condition of a question holds at a path with the pairs of a payload
abbrev pub question_holds : Topology → List ℕ → List Prop → Question → Bool
question_holds topology path props q = holds (record {
  names = q.names.items;
  topology = topology;
  path = path;
  props = props;
}) (view_cond q.cond)

-- a payload breaks a link: none of the conditions that guard it holds
abbrev pub is_broken : Topology → List ℕ → List Prop → Guard → Bool
is_broken topology path props g = not
    (list_any (question_holds topology path props) g.questions.items)

abbrev pub guard_instance : Guard → ℕ
guard_instance g = g.instance

abbrev pub broken_on : Topology → List Prop → Option GuardedNode → List ℕ
broken_on topology props None = []
broken_on topology props (Some n) =
    map guard_instance (filter (is_broken topology n.path props) n.guards.items)

-- the instances whose link to a node a payload breaks
abbrev pub broken_by : GuardsValue → ℕ → List Prop → List ℕ
broken_by v e props = broken_on v.topology props (slice_get v.nodes e)

-- the same links are guarded, in the same order, and each payload breaks the same ones
pub record GuardAlike (v w : GuardsValue) : Type 0 where
  pub links : guarded_links w ≡ guarded_links v
  pub broken : (e : ℕ) (props : List Prop) → broken_by w e props ≡ broken_by v e props

-- Guards that a graph can have: what is guarded are links of it, each once.
pub record AreGuardsFor (g : GraphValue) (v : GuardsValue) : Type 0 where
  pub links_are : (i e : ℕ) → is_guarded v i e ≡ true
      → is_member ((wiring g.instances).effects i) e ≡ true
  pub few : length (guarded_links v) ≤ links g.instances
