-- Which roots are possible, and what explains by one.
use Rattle.std.specs.Prelude.{◌≡◌, ◌==◌, ◌&&◌, ◌||◌, ◌<◌, ◌≤◌, not, ℕ, true, List, length}
use Rattle.ev_incidence.specs.Sets.{NodeSet, is_member, has_mark, IsSubset, ascends}
use Rattle.ev_graph.specs.Kinds.{is_root_node}
use Rattle.ev_graph.specs.Lawful.{GraphValue}
use Rattle.ev_graph.specs.declared.nodes.Node.{Node}
use Rattle.dx_story.specs.Greatest.{no_other_report, IsAllowedStory, IsGreatestStory}
use Rattle.dx_sets.specs.Sets.{SetsValue}
use Rattle.dx_sets.specs.Engine.{CutsOf}

-- the root is possible: some story of it, with reports within what is allowed, has all that was
-- seen
pub record IsPossible (g : GraphValue) (cut : CutsOf) (root : ℕ) (seen allowed : NodeSet) : Type 0
  where
    pub set : NodeSet
    pub story : IsAllowedStory g cut root allowed set
    pub all : IsSubset seen set

-- the set is the greatest story of the root, and has all that was seen
pub record IsExplanation (g : GraphValue) (cut : CutsOf) (root : ℕ) (seen allowed X : NodeSet) :
    Type 0 where
  pub is : IsGreatestStory g cut root allowed X
  pub all : IsSubset seen X

-- these numbers, in order, are it
pub record IsExplanationList (g : GraphValue) (cut : CutsOf) (root : ℕ) (seen allowed : NodeSet)
    (xs : List ℕ) : Type 0 where
  pub ascend : ascends xs ≡ true
  pub explanation : IsExplanation g cut root seen allowed (is_member xs)

-- no other root, and no report but those allowed
abbrev pub may_stay : List Node → ℕ → NodeSet → NodeSet
may_stay nodes root allowed e =
    (not (is_root_node nodes e) || e == root) && no_other_report nodes allowed e

-- the set that was found
abbrev pub set_of : SetsValue → NodeSet
set_of s = has_mark s.marks

-- there is a place for each node and each instance
pub record FitsGraph (g : GraphValue) (s : SetsValue) : Type 0 where
  pub few : length g.nodes ≤ 65536
  pub marks : length s.marks ≡ length g.nodes
  pub support : length s.support ≡ length g.nodes
  pub causes_left : length s.causes_left ≡ length g.instances
  pub effects_left : length s.effects_left ≡ length g.instances

-- the members below a number, in order
pub record AreMembers (X : NodeSet) (n : ℕ) (xs : List ℕ) : Type 0 where
  pub ascend : ascends xs ≡ true
  pub below : (e : ℕ) → is_member xs e ≡ true → e < n
  pub each : (e : ℕ) → is_member xs e ≡ true → X e ≡ true
  pub all : (e : ℕ) → e < n → X e ≡ true → is_member xs e ≡ true
