-- Stories as tests that compute. They mean what the relations of stories say (specs/Laws); no code
-- computes them, since there are as many sets as there are sets of nodes.
use Rattle.std.specs.Prelude.{◌==◌, ◌&&◌, ◌||◌, not, ℕ, Bool, List, length}
use Rattle.std.specs.List.{list_all}
use Rattle.ev_incidence.specs.Sets.{NodeSet, is_member}
use Rattle.ev_graph.specs.Kinds.{is_root_node, is_report_node}
use Rattle.ev_incidence.specs.Wiring.{Wiring}
use Rattle.ev_graph.specs.Wired.{wiring}
use Rattle.ev_graph.specs.Cutting.{without}
use Rattle.ev_graph.specs.Rules.{is_enough, is_met}
use Rattle.ev_graph.specs.Lawful.{GraphValue}
use Rattle.dx_sets.specs.Engine.{CutsOf}
use Rattle.dx_story.specs.Greatest.{no_other_report}
use Rattle.dx_explain.specs.Search.{every_below, some_below, some_set}

-- what the instances of a graph say, less the links that a test says are cut
abbrev pub wiring_with : GraphValue → CutsOf → Wiring
wiring_with g cut = without (wiring g.instances) cut

-- what a story X of the root asks of its member e: it is no other root; unless it is the root, some
-- instance has it as an effect with K of its causes in X; and each instance of which it is a cause
-- has N of its effects in X
abbrev pub is_no_other_root : GraphValue → ℕ → ℕ → Bool
is_no_other_root g root e = not (is_root_node g.nodes e) || e == root

abbrev pub is_given : GraphValue → CutsOf → ℕ → NodeSet → ℕ → Bool
is_given g cut root X e =
    e == root || some_below (length g.instances) (is_enough (wiring_with g cut) X e)

abbrev pub shows_all : GraphValue → CutsOf → NodeSet → ℕ → Bool
shows_all g cut X e = every_below (length g.instances) (is_met (wiring_with g cut) X e)

abbrev pub is_fit : GraphValue → CutsOf → ℕ → NodeSet → ℕ → Bool
is_fit g cut root X e =
    is_no_other_root g root e && (is_given g cut root X e && shows_all g cut X e)

-- X is a story of the root, in the graph less the links that are cut
unfoldable pub is_story : GraphValue → CutsOf → ℕ → NodeSet → Bool
is_story g cut root X =
    is_root_node g.nodes root
    && (X root && every_below (length g.nodes) (λ e. not (X e) || is_fit g cut root X e))

-- each report of X is among these
abbrev pub reports_within : GraphValue → NodeSet → NodeSet → Bool
reports_within g allowed X =
    every_below (length g.nodes) (λ e. not (X e) || no_other_report g.nodes allowed e)

-- the reports of X are just those that were seen
abbrev pub has_just : GraphValue → List ℕ → NodeSet → Bool
has_just g seen X =
    list_all (λ e. is_report_node g.nodes e && X e) seen
    && reports_within g (is_member seen) X

-- the root explains what was seen: some story of it has just that as its reports
unfoldable pub explains : GraphValue → CutsOf → List ℕ → ℕ → Bool
explains g cut seen root =
    some_set (length g.nodes) (λ X. is_story g cut root X && has_just g seen X)

-- e comes from the root: some story of it has all that was seen, no report but those allowed, and e
unfoldable pub comes_from : GraphValue → CutsOf → List ℕ → NodeSet → ℕ → ℕ → Bool
comes_from g cut seen allowed e root =
    some_set (length g.nodes)
    (λ X. is_story g cut root X && (list_all X seen && (reports_within g allowed X && X e)))
