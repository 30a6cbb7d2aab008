-- Tables of numbers, and the rows of one that agree with a binding.
use Rattle.std.specs.Prelude.{◌≡◌, ℕ, ◌<◌, ◌≤◌, ◌+◌, ⊤, nat_lt, List, [], ◌∷◌, ◌++◌}
use Rattle.std.specs.Prelude.{length, slice_get, slice_index, Some, filter, if◌then◌else◌}
use Rattle.ev_join.specs.declared.table.Row.{Row}
use Rattle.ev_join.specs.Order.{IsNotBefore, is_begun, placing}

-- a table: the numbers of its iterators, and rows of an instance for each of them
pub record TableValue : Type 0 where
  pub columns : List ℕ
  pub rows : List Row

-- numbers that ascend, from the first one at least so large on
abbrev pub RisesFrom : ℕ → List ℕ → Type 0
RisesFrom low [] = ⊤
RisesFrom low (c ∷ cs) = (low ≤ c) × RisesFrom (c + 1) cs

-- a table as it is kept: its iterators ascend, and its rows stand in the order of their numbers
pub record IsTable (t : TableValue) : Type 0 where
  pub rising : RisesFrom 0 t.columns
  pub order : (i j : ℕ) (r s : Row) → i < j → slice_get t.rows i ≡ Some r
      → slice_get t.rows j ≡ Some s → IsNotBefore s.values r.values

-- what a binding, or the beginning of one, gives to some iterators, up to the first that it does
-- not reach
abbrev pub bound_values : List ℕ → List ℕ → List ℕ
bound_values [] b = []
bound_values (c ∷ cs) b =
    if nat_lt c (length b) then slice_index b c ∷ bound_values cs b else []

-- some row begins with these numbers
pub record HasRow (rows : List Row) (values : List ℕ) : Type 0 where
  pub place : ℕ
  pub row : Row
  pub stands : slice_get rows place ≡ Some row
  pub rest : List ℕ
  pub begins : row.values ≡ values ++ rest

-- the rows that agree with a binding: they begin with what it gives
abbrev pub rows_at : TableValue → List ℕ → List Row
rows_at t b = filter (λ r. is_begun (placing r.values (bound_values t.columns b))) t.rows
