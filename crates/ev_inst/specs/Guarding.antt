-- Which links payloads can break, and which ones a payload breaks.
use Rattle.std.specs.Prelude.{ℕ, suc, Bool, true, false, ◌&&◌, List, [], ◌∷◌, ◌++◌, Option, Some}
use Rattle.std.specs.Prelude.{None, not, if◌then◌else◌, map, filter}
use Rattle.std.specs.List.{list_any, list_all}
use Rattle.fm_topo.specs.Topology.{Topology}
use Rattle.ev_tree.specs.Condition.{Condition}
use Rattle.ev_tree.specs.Pattern.{Pattern}
use Rattle.ev_check.specs.CheckedFile.{Linking}
use Rattle.ev_expr.specs.Conditions.{holds}
use Rattle.ev_expr.specs.declared.settings.Prop.{Prop}
use Rattle.ev_graph.specs.declared.instances.Link.{Link}
use Rattle.ev_graph.specs.declared.nodes.Node.{Node}
use Rattle.ev_events.specs.Names.{iterators}
use Rattle.ev_events.specs.Asking.{condition_names, asks_payload}
use Rattle.ev_inst.specs.Outcomes.{is_event_among, is_event_of, is_made, numbers_with}

-- the condition asks the payload, where there is one
abbrev pub asks_if : Option Condition → Bool
asks_if None = false
asks_if (Some c) = asks_payload c

-- a pattern that gives the node asks the payload, so far as it gives it
abbrev pub is_guard : Topology → List (List ℕ) → List ℕ → Node → Pattern → Bool
is_guard topology vs b node q =
    if is_event_of topology vs b node q then asks_if q.cond else true

-- each of the patterns that gives the node asks the payload
abbrev pub are_guards : Topology → List (List ℕ) → List ℕ → List Pattern → Node → Bool
are_guards topology vs b qs node = list_all (is_guard topology vs b node) qs

-- the condition of a pattern holds at the path of a node with the pairs of a payload
abbrev pub holds_with : Topology → List (List ℕ) → List ℕ → List Prop → Node → Pattern
    → Option Condition → Bool
holds_with topology vs b props node q None = true
holds_with topology vs b props node q (Some c) = holds (record {
  names = condition_names vs b q.parts node.name.path;
  topology = topology;
  path = node.name.path;
  props = props;
}) c

-- a pattern gives the node, and its condition holds there with the pairs of a payload
abbrev pub shows_with : Topology → List (List ℕ) → List ℕ → List Prop → Node → Pattern → Bool
shows_with topology vs b props node q =
    is_event_of topology vs b node q && holds_with topology vs b props node q q.cond

-- the link to a node that some patterns give is guarded: each that gives it asks the payload
abbrev pub is_guarded_by : Topology → List (List ℕ) → List ℕ → List Pattern → Node → Bool
is_guarded_by topology vs b qs node =
    is_event_among topology vs b qs node && are_guards topology vs b qs node

-- a payload breaks a guarded link: with it none of the patterns that give the node holds there
abbrev pub is_broken_by : Topology → List (List ℕ) → List ℕ → List Prop → List Pattern → Node
    → Bool
is_broken_by topology vs b props qs node =
    is_guarded_by topology vs b qs node
    && not (list_any (shows_with topology vs b props node) qs)

-- what an instance is made of: a propagation, and a binding of its iterators
pub record Derivation : Type 0 where
  pub linking : Linking
  pub binding : List ℕ

abbrev pub derivation : Linking → List ℕ → Derivation
derivation l b = record { linking = l; binding = b }

-- those of all instances, in their order
abbrev pub derivations : Topology → List Node → List Linking → List (List (List ℕ))
    → List Derivation
derivations topology nodes (l ∷ ls) (bs ∷ more) =
    map (derivation l) (filter (is_made topology nodes l) bs) ++ derivations topology nodes ls more
derivations topology nodes _ _ = []

-- the link of an instance and a node is guarded; a payload breaks it
abbrev pub guards : Topology → Node → Derivation → Bool
guards topology node d =
    is_guarded_by topology (iterators d.linking) d.binding d.linking.right node

abbrev pub breaks : Topology → List Prop → Node → Derivation → Bool
breaks topology props node d =
    is_broken_by topology (iterators d.linking) d.binding props d.linking.right node

-- the instances whose links to a node are guarded, and those whose links to it a payload breaks,
-- ascending
abbrev pub guarded_at : Topology → List Derivation → Option Node → List ℕ
guarded_at topology ds None = []
guarded_at topology ds (Some node) = numbers_with (guards topology node) 0 ds

abbrev pub broken_at : Topology → List Derivation → List Prop → Option Node → List ℕ
broken_at topology ds props None = []
broken_at topology ds props (Some node) = numbers_with (breaks topology props node) 0 ds

-- the link of an instance to a node
abbrev pub link_of : ℕ → ℕ → Link
link_of e i = record { instance = i; effect = e }

-- the guarded links to nodes, the first of which has a number: by node, and then by instance
abbrev pub links_guarded : Topology → List Derivation → ℕ → List Node → List Link
links_guarded topology ds e [] = []
links_guarded topology ds e (node ∷ nodes) =
    map (link_of e) (guarded_at topology ds (Some node))
    ++ links_guarded topology ds (suc e) nodes
