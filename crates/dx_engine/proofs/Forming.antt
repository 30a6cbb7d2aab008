-- Graphs that a module can have.
use Rattle.std.proofs.Common.{◌≡◌, ◌≤◌, ◌^◌, Bool, true, false, ◌&&◌, nat_lt, nat_le}
use Rattle.std.proofs.Common.{List, length, map, refl, sym, ap, ◌∙◌}
use Rattle.std.specs.List.{list_all}
use Rattle.std.proofs.lemmas.Bool.{and_from, and_parts, le-leb}
use Rattle.std.proofs.lemmas.List.{length-map}
use Rattle.std.proofs.lemmas.List.Folds.{list_all-map}
use Rattle.fm_entry.specs.Words.{event_fits}
use Rattle.ev_graph.specs.Kinds.{is_report_node}
use Rattle.ev_incidence.specs.Sets.{ascends_by}
use Rattle.ev_graph.specs.Lawful.{GraphValue, IsGraph, is_before_node}
use Rattle.ev_graph.specs.Lawful.{has_engine_limits}
use Rattle.ev_graph.specs.Kinds.{has_limits}
use Rattle.ev_graph.specs.declared.nodes.EngineSpec.{EngineSpec}
use Rattle.dx_rules.specs.declared.ruled.Ruled.{Ruled}
use Rattle.dx_rules.specs.Rulebooks.{ruled_of}
use Rattle.dx_state.specs.Configured.{Listed}
use Rattle.dx_state.specs.LawfulState.{is_formed, is_formed_engine, is_formed_configuration}
use Rattle.dx_state.proofs.Lists.{all_both}
use Rattle.dx_step.specs.Lawful.{are_configurations}

and_yes : (b : Bool) → (b && true) ≡ b
and_yes true = refl
and_yes false = refl

-- what is left to ask of a graph
formed_by : (a b c d e : Bool) → a ≡ true → c ≡ true → e ≡ true
    → (a && (b && (c && (d && e)))) ≡ (b && d)
formed_by a b c d e x y z =
    (λ i. x i && (b && (y i && (d && z i)))) ∙ ap (λ (k : Bool). b && k) (and_yes d)

pub formed_graph : (g : GraphValue) → IsGraph g → is_formed g
    ≡ (list_all (λ node. event_fits node.name) g.nodes && nat_lt (length g.engines) (2 ^ 32))
formed_graph g h =
    let sorted = h.counted.kindred.numbered.sorted in
    let ascending = and_parts (ascends_by is_before_node g.nodes) _ sorted.ascending in
    let kinds = and_parts (list_all (λ (e : EngineSpec). is_report_node g.nodes e.trip) g.engines)
    _ h.counted.kindred.kinds in
    let counts = and_parts (list_all (λ node. has_limits node.kind) g.nodes) _ h.counted.counts in
    let limits = and_parts (list_all has_engine_limits g.engines) _ counts.1 in
    formed_by (nat_le (length g.nodes) 65536) (list_all (λ node. event_fits node.name) g.nodes)
    (ascends_by is_before_node g.nodes) (nat_lt (length g.engines) (2 ^ 32))
    (list_all (is_formed_engine g) g.engines)
    (le-leb (length g.nodes) 65536 sorted.small.few_nodes) ascending.0
    (all_both has_engine_limits (λ (e : EngineSpec). is_report_node g.nodes e.trip)
    (is_formed_engine g)
    (λ e a b. and_from (has_engine_limits e) (is_report_node g.nodes e.trip) a b)
    g.engines limits.0 kinds.0)

-- configurations of a list
pub listed_formed : (xs : List Ruled) → length xs ≤ 2 ^ 32
    → list_all (λ x. is_formed_configuration (ruled_of x)) xs
    ≡ are_configurations (Listed (map ruled_of xs))
listed_formed xs low =
    let few : nat_le (length (map ruled_of xs)) (2 ^ 32) ≡ true =
    le-leb (length (map ruled_of xs)) (2 ^ 32) (rw length-map low) in
    sym (ap (λ (b : Bool). b && list_all is_formed_configuration (map ruled_of xs)) few
    ∙ list_all-map is_formed_configuration ruled_of xs)
