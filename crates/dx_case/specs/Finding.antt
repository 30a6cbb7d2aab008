-- The roots that reach a report, and the reports that roots reach.
use Rattle.std.specs.Prelude.{◌≡◌, ℕ, true, List, Some, slice_get}
use Rattle.ev_incidence.specs.Sets.{NodeSet, is_member, ascends}
use Rattle.ev_graph.specs.Kinds.{is_root_node}
use Rattle.ev_graph.specs.Lawful.{GraphValue}
use Rattle.dx_sets.specs.Engine.{CutsOf}
use Rattle.dx_story.specs.Greatest.{IsAllowedStory}
use Rattle.dx_live.specs.Live.{no_cut, all_allowed}
use Rattle.dx_case.specs.declared.candidate.Candidate.{Candidate}
use Rattle.dx_case.specs.Candidates.{IsCandidate, roots_in}

-- those of some numbers that pass a test, ascending
pub record AreSorted (test : NodeSet) (numbers list : List ℕ) : Type 0 where
  pub ascend : ascends list ≡ true
  pub from : (e : ℕ) → is_member list e ≡ true → test e ≡ true
  pub all : (e : ℕ) → is_member numbers e ≡ true → test e ≡ true → is_member list e ≡ true

-- the roots of all stories that have the node
pub record AreRootsOf (g : GraphValue) (node : ℕ) (roots : List ℕ) : Type 0 where
  pub ascend : ascends roots ≡ true
  pub each : (e : ℕ) → is_member roots e ≡ true → is_root_node g.nodes e ≡ true
  pub all : (root : ℕ) (cut : CutsOf) (allowed X : NodeSet) → IsAllowedStory g cut root allowed X
      → X node ≡ true → is_member roots root ≡ true

-- candidates of these roots, as they are made
pub record AreAsMade (g : GraphValue) (roots : List ℕ) (candidates : List Candidate) : Type 0 where
  pub are : roots_in candidates ≡ roots
  pub each : (i : ℕ) (a : Candidate) → slice_get candidates i ≡ Some a
      → IsCandidate g no_cut all_allowed a
