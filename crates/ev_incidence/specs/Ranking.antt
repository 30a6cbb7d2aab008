-- What the search for ranks keeps. A rank is kept as one more, and 0 stands for none.
use Rattle.std.specs.Prelude.{◌≡◌, ◌==◌, ◌+◌, ◌-◌, ◌<◌, ◌≤◌, ℕ, suc, true, List, length}
use Rattle.std.specs.Prelude.{slice_index, Option, Some, None}
use Rattle.std.specs.List.{count_by}
use Rattle.ev_incidence.specs.Sets.{is_member}
use Rattle.ev_incidence.specs.Table.{row_at, IncidenceValue, wiring_of}
use Rattle.ev_incidence.specs.Wiring.{IsCauseOf}

-- m is the greatest value of these numbers, each of which has one
pub record IsMost (numbers values : List ℕ) (m : ℕ) : Type 0 where
  pub each : (x : ℕ) → is_member numbers x ≡ true → (0 < slice_index values x)
      × (slice_index values x ≤ m)
  pub top : 0 < m → (x : ℕ) × (is_member numbers x ≡ true) × (slice_index values x ≡ m)

-- some of these numbers has no value
pub record LacksOne (numbers values : List ℕ) : Type 0 where
  pub number : ℕ
  pub member : is_member numbers number ≡ true
  pub lacks : slice_index values number ≡ 0

abbrev pub IsMostOf : List ℕ → List ℕ → Option ℕ → Type 0
IsMostOf numbers values None = LacksOne numbers values
IsMostOf numbers values (Some m) = IsMost numbers values m

-- the ranks and levels that are given are right: a level is the greatest rank of the causes, and a
-- rank one more than the greatest level of the instances that have the node as an effect
pub record IsRanking (v : IncidenceValue) (ranks levels : List ℕ) (done : ℕ) : Type 0 where
  pub ranks_count : length ranks ≡ length v.uses
  pub levels_count : length levels ≡ length v.causes
  pub node : (x m : ℕ) → slice_index ranks x ≡ suc m → IsMost (row_at v.gets x) levels m
  pub place : (j : ℕ) → 0 < slice_index levels j
      → IsMost (row_at v.causes j) ranks (slice_index levels j)
  pub left : count_by (λ r. r == 0) ranks + done ≡ length ranks
  pub ranks_below : (x : ℕ) → slice_index ranks x ≤ done
  pub levels_below : (j : ℕ) → slice_index levels j ≤ done

-- each instance without a level has a cause without a rank
pub record ArePlacesStuck (v : IncidenceValue) (ranks levels : List ℕ) : Type 0 where
  pub each : (j : ℕ) → j < length v.causes → slice_index levels j ≡ 0
      → LacksOne (row_at v.causes j) ranks

-- each node without a rank is an effect of an instance without a level
pub record AreNodesStuck (v : IncidenceValue) (ranks levels : List ℕ) : Type 0 where
  pub each : (x : ℕ) → x < length v.uses → slice_index ranks x ≡ 0
      → LacksOne (row_at v.gets x) levels

-- each instance has a cause
pub record HaveCauses (v : IncidenceValue) : Type 0 where
  pub each : (j : ℕ) → j < length v.causes → 0 < length (row_at v.causes j)

-- the ranks of all nodes
pub record AreRanks (v : IncidenceValue) (ranks : List ℕ) : Type 0 where
  pub count : length ranks ≡ length v.uses
  pub some : (x : ℕ) → x < length ranks → 0 < slice_index ranks x
  pub rises : (x y : ℕ) → IsCauseOf (wiring_of v) x y → slice_index ranks x < slice_index ranks y
  pub tight : (y r : ℕ) → slice_index ranks y ≡ suc (suc r) → (x : ℕ) × IsCauseOf (wiring_of v) x y
      × (slice_index ranks x ≡ suc r)
