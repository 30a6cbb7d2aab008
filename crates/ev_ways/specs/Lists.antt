-- Small words on lists of numbers.
use Rattle.std.specs.Prelude.{◌≡◌, ◌⊎◌, ℕ, ◌<◌, ◌==◌, List, [], length, slice_index}
use Rattle.std.specs.Prelude.{slice_index_or, Bool, true, false}
use Rattle.std.specs.List.{list_any}

-- x stands in xs
pub record IsIn (x : ℕ) (xs : List ℕ) : Type 0 where
  pub place : ℕ
  pub within : place < length xs
  pub stands : slice_index xs place ≡ x

-- the list at a place, the empty one past the end
abbrev pub row : List (List ℕ) → ℕ → List ℕ
row xs j = slice_index_or xs j []

-- each number of xs is below n
abbrev pub AllBelow : ℕ → List ℕ → Type 0
AllBelow n xs = (k : ℕ) → k < length xs → slice_index xs k < n

-- each number of each list is below n
abbrev pub RowsBelow : ℕ → List (List ℕ) → Type 0
RowsBelow n xs = (j : ℕ) → AllBelow n (row xs j)

-- a mark at a place, false past the end
abbrev pub marked : List Bool → ℕ → Type 0
marked marks x = slice_index_or marks x false ≡ true

-- whether x stands in xs, as a test
abbrev pub is_in : ℕ → List ℕ → Bool
is_in x xs = list_any (λ y. x == y) xs

-- uses tells for each node the lists in which it stands
abbrev pub IsTurned : List (List ℕ) → List (List ℕ) → Type 0
IsTurned rows uses = (x j : ℕ) → is_in j (row uses x) ≡ is_in x (row rows j)

-- the same, each way
pub record IsIndex (rows uses : List (List ℕ)) : Type 0 where
  pub to : (x j : ℕ) → IsIn x (row rows j) → IsIn j (row uses x)
  pub from : (x j : ℕ) → IsIn j (row uses x) → IsIn x (row rows j)

-- what the first n members of the list j add to an index
pub record Notes (members : List ℕ) (j n : ℕ) (old new : List (List ℕ)) : Type 0 where
  pub same_length : length new ≡ length old
  pub kept : (x i : ℕ) → IsIn i (row old x) → IsIn i (row new x)
  pub noted : (k : ℕ) → k < n → IsIn j (row new (slice_index members k))
  pub only : (x i : ℕ) → IsIn i (row new x) → IsIn i (row old x) ⊎ ((i ≡ j) × IsIn x members)

-- an index of the first n lists
pub record IsIndexOf (n : ℕ) (rows uses : List (List ℕ)) : Type 0 where
  pub to : (x j : ℕ) → j < n → IsIn x (row rows j) → IsIn j (row uses x)
  pub from : (x j : ℕ) → IsIn j (row uses x) → IsIn x (row rows j) × (j < n)
