-- The choice of the next node of a cycle: the one at the least distance, and of these the first.
use Rattle.std.specs.Prelude.{◌≡◌, ◌⊎◌, ℕ, ◌<◌, ◌≤◌, List, Option, Some, None}
use Rattle.ev_ways.specs.Ways.{Way}
use Rattle.ev_ways.specs.Search.{far}
use Rattle.ev_ways.specs.declared.step.Step.{Step}

-- the step is not behind one to the node z at the distance e
abbrev pub IsAtMost : Step → ℕ → ℕ → Type 0
IsAtMost s e z = (s.distance < e) ⊎ ((s.distance ≡ e) × (s.node ≤ z))

-- s is the best of the nodes for which `all` holds
pub record IsBest (all : ℕ → Type 0) (distance : List (Option ℕ)) (s : Step) : Type 0 where
  pub one : all s.node
  pub stands : far distance s.node ≡ Some s.distance
  pub least : (z e : ℕ) → all z → far distance z ≡ Some e → IsAtMost s e z

-- the best of the nodes for which `all` holds, none where none has a distance
abbrev pub IsBestOf : (ℕ → Type 0) → List (Option ℕ) → Option Step → Type 0
IsBestOf all distance None = (z e : ℕ) → all z → far distance z ≡ Some e → ⊥
IsBestOf all distance (Some s) = IsBest all distance s

-- what looking at more nodes makes of the best so far: the new one comes from these, and is not
-- behind the old one nor those that are done
pub record IsBetter (done all : ℕ → Type 0) (distance : List (Option ℕ)) (old new : Option Step) :
    Type 0 where
  pub from : (s : Step) → new ≡ Some s → (old ≡ Some s)
      ⊎ (all s.node × (far distance s.node ≡ Some s.distance))
  pub kept : (s : Step) → old ≡ Some s → (t : Step) × (new ≡ Some t) × IsAtMost t s.distance s.node
  pub each : (z e : ℕ) → done z → far distance z ≡ Some e → (t : Step) × (new ≡ Some t)
      × IsAtMost t e z

-- the distances are those of shortest ways to the goal
pub record AreTowards (causes effects : List (List ℕ)) (goal : ℕ) (distance : List (Option ℕ)) :
    Type 0 where
  pub shown : (x d : ℕ) → far distance x ≡ Some d → Way causes effects d x goal
  pub least : (x n : ℕ) → Way causes effects n x goal → (d : ℕ) × (far distance x ≡ Some d)
      × (d ≤ n)
