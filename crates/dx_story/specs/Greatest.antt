-- Stories whose reports are among some, and the greatest of them.
use Rattle.std.specs.Prelude.{◌||◌, not, ℕ, Bool, List}
use Rattle.ev_incidence.specs.Sets.{NodeSet, IsSubset}
use Rattle.ev_graph.specs.Kinds.{is_report_node}
use Rattle.ev_graph.specs.Wired.{wiring}
use Rattle.ev_graph.specs.Cutting.{without}
use Rattle.ev_graph.specs.Lawful.{GraphValue}
use Rattle.ev_graph.specs.declared.nodes.Node.{Node}
use Rattle.dx_story.specs.Story.{IsStory}

-- no report, or one that is allowed
abbrev pub no_other_report : List Node → NodeSet → NodeSet
no_other_report nodes allowed e = not (is_report_node nodes e) || allowed e

-- a story of the root, in the graph less the links that are cut, with reports within what is
-- allowed
pub record IsAllowedStory (g : GraphValue) (cut : ℕ → ℕ → Bool) (root : ℕ) (allowed X : NodeSet)
    : Type 0 where
  pub story : IsStory g.nodes (without (wiring g.instances) cut) root X
  pub within : IsSubset X (no_other_report g.nodes allowed)

-- the greatest such story
pub record IsGreatestStory (g : GraphValue) (cut : ℕ → ℕ → Bool) (root : ℕ) (allowed X : NodeSet)
    : Type 0 where
  pub story : IsAllowedStory g cut root allowed X
  pub greatest : (Y : NodeSet) → IsAllowedStory g cut root allowed Y → IsSubset Y X
