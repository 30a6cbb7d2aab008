-- What cases rest on: how what is possible changes, and when it is decided.
use Rattle.std.specs.Prelude.{◌≡◌, ◌&&◌, ◌↔◌, ℕ, true, false}
use Rattle.ev_incidence.specs.Sets.{NodeSet, IsSubset}
use Rattle.ev_graph.specs.Kinds.{is_report_node}
use Rattle.ev_graph.specs.Wired.{wiring}
use Rattle.ev_graph.specs.Cutting.{without}
use Rattle.ev_graph.specs.Lawful.{GraphValue}
use Rattle.dx_story.specs.Story.{IsStory}
use Rattle.dx_sets.specs.Engine.{CutsOf, CutsWithin}
use Rattle.dx_story.specs.Greatest.{no_other_report, IsAllowedStory}
use Rattle.dx_explain.specs.Explaining.{IsPossible}
use Rattle.dx_story.specs.Greatest.{IsGreatestStory}

-- a root that is possible stays so where less was seen, more is allowed and fewer links are cut: so
-- while more is seen, less is allowed and more is cut, what is possible only shrinks
abbrev pub PossibleShrinks : Type 0
PossibleShrinks = (g : GraphValue) (cut fewer : CutsOf) (root : ℕ)
    (seen allowed less_seen more_allowed : NodeSet)
    → IsSubset less_seen seen
    → IsSubset (no_other_report g.nodes allowed) (no_other_report g.nodes more_allowed)
    → CutsWithin fewer cut → IsPossible g cut root seen allowed
    → IsPossible g fewer root less_seen more_allowed

-- the greatest stories within two allowed sets that agree on reports have the same members
abbrev pub SameGreatest : Type 0
SameGreatest = (g : GraphValue) (cut : CutsOf) (root : ℕ) (allowed other X Y : NodeSet)
    → ((e : ℕ) → is_report_node g.nodes e ≡ true → allowed e ≡ other e)
    → IsGreatestStory g cut root allowed X → IsGreatestStory g cut root other Y
    → (e : ℕ) → X e ≡ Y e

-- the root explains what was seen: some story of it has exactly that as its reports
pub record Explains (g : GraphValue) (cut : CutsOf) (root : ℕ) (seen : NodeSet) : Type 0 where
  pub set : NodeSet
  pub story : IsStory g.nodes (without (wiring g.instances) cut) root set
  pub reports : (e : ℕ) → seen e ≡ (is_report_node g.nodes e && set e)

-- a report that was not seen occurs in a story, of some root, that has all that was seen and no
-- report but those allowed
pub record IsPending (g : GraphValue) (cut : CutsOf) (seen allowed : NodeSet) (e : ℕ) : Type 0 where
  pub report : is_report_node g.nodes e ≡ true
  pub unseen : seen e ≡ false
  pub root : ℕ
  pub set : NodeSet
  pub story : IsAllowedStory g cut root allowed set
  pub all : IsSubset seen set
  pub occurs : set e ≡ true

-- where reports were seen that are allowed, and nothing is pending, the roots that are possible are
-- those that explain
abbrev pub Decided : Type 0
Decided = (g : GraphValue) (cut : CutsOf) (root : ℕ) (seen allowed : NodeSet)
    → IsSubset seen (is_report_node g.nodes) → IsSubset seen allowed
    → ((e : ℕ) → IsPending g cut seen allowed e → ⊥)
    → IsPossible g cut root seen allowed ↔ Explains g cut root seen
