-- The candidates of some tables: the bindings with which each table has a row.
use Rattle.std.specs.Prelude.{◌≡◌, ℕ, ◌<◌, List, length, slice_get, Some, sum_by}
use Rattle.std.specs.Prelude.{IsPermutation}
use Rattle.ev_join.specs.Order.{IsNotBefore, AreSmall}
use Rattle.ev_join.specs.Tables.{TableValue, HasRow, bound_values, rows_at}

-- each table has a row with what a binding, or the beginning of one, gives to its iterators
pub record HasRows (tables : List TableValue) (b : List ℕ) : Type 0 where
  pub each : (j : ℕ) (t : TableValue) → slice_get tables j ≡ Some t
      → HasRow t.rows (bound_values t.columns b)

-- a binding, which gives an instance below 2 ^ 32 to each of n iterators, with which each table has
-- a row
pub record IsJoined (tables : List TableValue) (n : ℕ) (b : List ℕ) : Type 0 where
  pub full : length b ≡ n
  pub small : AreSmall b
  pub fits : HasRows tables b

-- candidates, each once, in order
pub record AreJoined (tables : List TableValue) (n : ℕ) (bs : List (List ℕ)) : Type 0 where
  pub each : (i : ℕ) (b : List ℕ) → slice_get bs i ≡ Some b → IsJoined tables n b
  pub ascend : (i j : ℕ) (a b : List ℕ) → i < j → slice_get bs i ≡ Some a
      → slice_get bs j ≡ Some b → IsNotBefore a b → ⊥

-- some place of a list has the item
pub record IsAmong (b : List ℕ) (bs : List (List ℕ)) : Type 0 where
  pub place : ℕ
  pub stands : slice_get bs place ≡ Some b

-- all candidates, each once, in order
pub record AreAllCandidates (tables : List TableValue) (n : ℕ) (bs : List (List ℕ)) : Type 0 where
  pub candidates : AreJoined tables n bs
  pub all : (c : List ℕ) → IsJoined tables n c → IsAmong c bs

-- the same bindings in order
pub record AreInOrder (bs cs : List (List ℕ)) : Type 0 where
  pub same : IsPermutation bs cs
  pub order : (i j : ℕ) (a b : List ℕ) → i < j → slice_get cs i ≡ Some a → slice_get cs j ≡ Some b
      → IsNotBefore b a

-- the candidate links of a binding: the rows that agree with it, of all tables
abbrev pub links_at : List TableValue → List ℕ → ℕ
links_at tables b = sum_by (λ t. length (rows_at t b)) tables
