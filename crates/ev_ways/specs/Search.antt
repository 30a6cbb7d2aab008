-- What a breadth-first search keeps. A distance is an optional number for each node.
use Rattle.std.specs.Prelude.{◌≡◌, ◌⊎◌, ℕ, ◌+◌, ◌<◌, ◌≤◌, Bool, cond, List, [], ◌∷◌, ◌++◌, length}
use Rattle.std.specs.Prelude.{Option, Some, None, slice_index_or, slice_set}
use Rattle.std.specs.List.{count_by}
use Rattle.std.specs.Option.{is_none}
use Rattle.ev_ways.specs.Lists.{IsIn, row, marked}
use Rattle.ev_ways.specs.Ways.{Leads, Comes}

-- the distance of a node, where it has one
abbrev pub far : List (Option ℕ) → ℕ → Option ℕ
far distance x = slice_index_or distance x None

-- the node has a distance of at most n
pub record IsNear (distance : List (Option ℕ)) (n x : ℕ) : Type 0 where
  pub steps : ℕ
  pub stands : far distance x ≡ Some steps
  pub within : steps ≤ n

-- the list has just the nodes at the distance v, which is the greatest that was given
pub record IsFront (v : ℕ) (distance : List (Option ℕ)) (front : List ℕ) : Type 0 where
  pub bound : (x d : ℕ) → far distance x ≡ Some d → d ≤ v
  pub all : (x : ℕ) → far distance x ≡ Some v → IsIn x front
  pub given : (x : ℕ) → IsIn x front → far distance x ≡ Some v
  pub room : count_by is_none distance + length front + v ≤ length distance

-- each effect of a taken arrow has a distance
pub record IsTaken (effects : List (List ℕ)) (v : ℕ) (distance : List (Option ℕ))
    (taken : List Bool) : Type 0 where
  pub each : (j y : ℕ) → marked taken j → IsIn y (row effects j) → IsNear distance v y

-- the distances after the node x was given v, where it had none
abbrev pub reached : List (Option ℕ) → ℕ → ℕ → List (Option ℕ)
reached distance x v = cond (is_none (far distance x)) (slice_set distance x (Some v)) distance

-- the front after the same
abbrev pub noted : List (Option ℕ) → List ℕ → ℕ → List ℕ
noted distance front x = cond (is_none (far distance x)) (front ++ x ∷ []) front

-- what a part of the search does: distances stay, what is done has one, and a new one is v, at a
-- node of all
pub record Grown (v : ℕ) (done all : ℕ → Type 0) (old new : List (Option ℕ)) : Type 0 where
  pub lengths : length new ≡ length old
  pub kept : (x d : ℕ) → far old x ≡ Some d → far new x ≡ Some d
  pub near : (x : ℕ) → done x → IsNear new v x
  pub only : (x d : ℕ) → far new x ≡ Some d → (far old x ≡ Some d) ⊎ ((d ≡ v) × all x)

-- the same, where what is done is all
abbrev pub GrownBy : ℕ → (ℕ → Type 0) → List (Option ℕ) → List (Option ℕ) → Type 0
GrownBy v all old new = Grown v all all old new

-- x is an effect of one of the first n of these arrows
abbrev pub IsEffectOf : List (List ℕ) → List ℕ → ℕ → ℕ → Type 0
IsEffectOf effects arrows n y = (k : ℕ) × (k < n) × IsIn y (row effects (slice_index_or arrows k 0))

-- one of the first n of these nodes leads to y
abbrev pub IsAfter : List (List ℕ) → List (List ℕ) → List ℕ → ℕ → ℕ → Type 0
IsAfter causes effects nodes n y = (k : ℕ) × (k < n)
    × Leads causes effects (slice_index_or nodes k 0) y

-- one of the first n of these numbers is y
abbrev pub IsOneOf : List ℕ → ℕ → ℕ → Type 0
IsOneOf xs n y = (k : ℕ) × (k < n) × (slice_index_or xs k 0 ≡ y)

-- what the search keeps from level to level
pub record Searched (causes effects : List (List ℕ)) (starts : List ℕ) (v : ℕ)
    (distance : List (Option ℕ)) (front : List ℕ) (taken : List Bool) : Type 0 where
  pub shown : (x d : ℕ) → far distance x ≡ Some d → Comes causes effects starts d x
  pub begun : (s : ℕ) → IsIn s starts → IsNear distance 0 s
  pub front_is : IsFront v distance front
  pub closed : (x d y : ℕ) → far distance x ≡ Some d → d < v → Leads causes effects x y
      → IsNear distance (d + 1) y
  pub taken_is : IsTaken effects v distance taken

-- each distance is that of a shortest way from one of the starts, and each node that has such a way
-- has one
pub record AreDistances (causes effects : List (List ℕ)) (starts : List ℕ)
    (distance : List (Option ℕ)) : Type 0 where
  pub shown : (x d : ℕ) → far distance x ≡ Some d → Comes causes effects starts d x
  pub least : (x n : ℕ) → Comes causes effects starts n x → IsNear distance n x
