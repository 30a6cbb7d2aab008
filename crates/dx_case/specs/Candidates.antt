-- The candidates of a case: a live set for each root that may still account for it.
use Rattle.std.specs.Prelude.{◌≡◌, ◌&&◌, not, ℕ, Bool, true, List, map, Some, slice_get}
use Rattle.std.specs.List.{list_all, list_any}
use Rattle.ev_incidence.specs.Sets.{NodeSet, is_member, ascends}
use Rattle.ev_graph.specs.Kinds.{has_kind, is_report_node}
use Rattle.ev_graph.specs.declared.nodes.Node.{Node}
use Rattle.ev_graph.specs.declared.nodes.NodeKind.{NodeKind}
use Rattle.ev_graph.specs.Lawful.{GraphValue}
use Rattle.dx_sets.specs.Engine.{CutsOf}
use Rattle.dx_story.specs.Greatest.{IsAllowedStory}
use Rattle.dx_explain.specs.Explaining.{IsPossible}
use Rattle.dx_live.specs.Live.{IsLiveOf, IsLiveBest, live_root, live_set}
use Rattle.dx_case.specs.declared.candidate.Candidate.{Candidate}
use Rattle.dx_case.specs.Changes.{allowed_less}

abbrev pub roots_in : List Candidate → List ℕ
roots_in candidates = map (λ a. a.root) candidates

-- its set is the greatest story of its root, where these links are cut and these reports allowed
pub record IsCandidate (g : GraphValue) (cut : CutsOf) (allowed : NodeSet) (a : Candidate) : Type 0
  where
    pub live : IsLiveOf g a.live
    pub root : live_root a.live ≡ a.root
    pub best : IsLiveBest g cut allowed a.live

-- each report in a story of one of these roots is among these
pub record AreCovered (g : GraphValue) (roots reports : List ℕ) : Type 0 where
  pub each : (root : ℕ) (cut : CutsOf) (allowed X : NodeSet) → is_member roots root ≡ true
      → IsAllowedStory g cut root allowed X → (e : ℕ) → X e ≡ true
      → is_report_node g.nodes e ≡ true → is_member reports e ≡ true

-- Where these links are cut, this was observed and these reports are allowed: candidates by rising
-- root, of all roots that are possible, and the reports that any of their stories has.
pub record AreCandidates (g : GraphValue) (cut : CutsOf) (seen allowed : NodeSet)
    (candidates : List Candidate) (reports : List ℕ) : Type 0 where
  pub each : (i : ℕ) (a : Candidate) → slice_get candidates i ≡ Some a
      → IsCandidate g cut allowed a
  pub ascend : ascends (roots_in candidates) ≡ true
  pub all : (root : ℕ) → IsPossible g cut root seen allowed
      → is_member (roots_in candidates) root ≡ true
  pub reports_ascend : ascends reports ≡ true
  pub reports_are : list_all (is_report_node g.nodes) reports ≡ true
  pub covered : AreCovered g (roots_in candidates) reports

-- the set has its root and all that was observed
abbrev pub covers : List ℕ → Candidate → Bool
covers observed a = live_set a.live (live_root a.live) && list_all (live_set a.live) observed

-- some set has the node
abbrev pub is_held : List Candidate → ℕ → Bool
is_held candidates e = list_any (λ a. live_set a.live e) candidates

-- a report that was not observed is in some set
abbrev pub is_left : List Candidate → List ℕ → ℕ → Bool
is_left candidates observed e = not (is_member observed e) && is_held candidates e

-- what is allowed after a change: of the reports that candidates' stories have, just what was
-- allowed and did not go
pub record Narrows (g : GraphValue) (reports : List ℕ) (gone allowed fewer : NodeSet) : Type 0 where
  pub within : (e : ℕ) → is_report_node g.nodes e ≡ true → fewer e ≡ true
      → allowed_less allowed gone e ≡ true
  pub only : (e : ℕ) → is_report_node g.nodes e ≡ true → is_member reports e ≡ true
      → allowed_less allowed gone e ≡ true → fewer e ≡ true

-- the nodes of a kind
abbrev pub is_of_kind : (NodeKind → Bool) → List Node → NodeSet
is_of_kind kind nodes e = has_kind kind (slice_get nodes e)
