-- Lists of numbers in one block, and the incidence of instances and nodes.
use Rattle.std.specs.Prelude.{◌≡◌, ◌+◌, ◌-◌, ◌^◌, ◌<◌, ◌≤◌, ℕ, suc, List, [], ◌∷◌, length, take}
use Rattle.std.specs.Prelude.{drop}
use Rattle.std.specs.Prelude.{◌==◌, cond, nat_lt, slice_index, slice_index_or}
use Rattle.std.specs.List.{sum_by}
use Rattle.ev_incidence.specs.Sets.{occurs}
use Rattle.ev_incidence.specs.Wiring.{Wiring}

-- the list at a place, the empty one past the end
abbrev pub row_at : List (List ℕ) → ℕ → List ℕ
row_at rows j = slice_index_or rows j []

-- the pieces of a list between each bound and the next
abbrev pub pieces_from : List ℕ → ℕ → List ℕ → List (List ℕ)
pieces_from items from [] = []
pieces_from items from (to ∷ bounds) =
    take (to - from) (drop from items) ∷ pieces_from items to bounds

abbrev pub pieces : List ℕ → List ℕ → List (List ℕ)
pieces items [] = []
pieces items (from ∷ bounds) = pieces_from items from bounds

-- the bounds rise from the beginning of the items to their end
pub record AreBounds (items bounds : List ℕ) : Type 0 where
  pub some : 0 < length bounds
  pub first : slice_index bounds 0 ≡ 0
  pub last : slice_index bounds (length bounds - 1) ≡ length items
  pub few : length bounds ≤ 2 ^ 32
  pub rise : (i j : ℕ) → j ≡ suc i → j < length bounds → slice_index bounds i ≤ slice_index bounds j
  pub within : (i : ℕ) → slice_index bounds i ≤ length items

-- for each number the rows in which it stands, as often as it stands there
pub record IsTranspose (rows index : List (List ℕ)) : Type 0 where
  pub each : (e j : ℕ) → occurs j (row_at index e) ≡ occurs e (row_at rows j)
  pub total : sum_by length index ≡ sum_by length rows

-- causes, effects and the two numbers of each instance; for each node the instances that it is a
-- cause of, and those that it is an effect of
pub record IncidenceValue : Type 0 where
  pub causes : List (List ℕ)
  pub effects : List (List ℕ)
  pub n : List ℕ
  pub k : List ℕ
  pub uses : List (List ℕ)
  pub gets : List (List ℕ)

abbrev pub wiring_of : IncidenceValue → Wiring
wiring_of v = record {
  causes = λ j. row_at v.causes j;
  effects = λ j. row_at v.effects j;
  n = λ j. slice_index v.n j;
  k = λ j. slice_index v.k j;
}

-- each number of each row is below the bound
abbrev pub AreRowsBelow : ℕ → List (List ℕ) → Type 0
AreRowsBelow bound rows = (j i : ℕ) → i < length (row_at rows j)
    → slice_index (row_at rows j) i < bound

pub record IsIncidence (v : IncidenceValue) : Type 0 where
  pub uses_is : IsTranspose v.causes v.uses
  pub gets_is : IsTranspose v.effects v.gets
  pub nodes_count : length v.gets ≡ length v.uses
  pub effects_count : length v.effects ≡ length v.causes
  pub n_count : length v.n ≡ length v.causes
  pub k_count : length v.k ≡ length v.causes

-- what so many members of a list add, each noting the place of the list
pub record AreNoted (members : List ℕ) (place : ℕ) (old new : List (List ℕ)) : Type 0 where
  pub same_length : length new ≡ length old
  pub each : (e j : ℕ) → occurs j (row_at new e)
      ≡ occurs j (row_at old e) + cond (j == place) (occurs e members) 0
  pub total : sum_by length new ≡ sum_by length old + length members

-- a transpose of the first rows
pub record IsTransposeOf (n : ℕ) (rows index : List (List ℕ)) : Type 0 where
  pub each : (e j : ℕ) → occurs j (row_at index e) ≡ cond (nat_lt j n) (occurs e (row_at rows j)) 0
  pub total : sum_by length index ≡ sum_by length (take n rows)
