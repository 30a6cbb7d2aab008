-- What a search finds: along an index that gives for each node the places of rows, and the rows,
-- whose members are nodes again.
use Rattle.std.specs.Prelude.{◌≡◌, [], ◌++◌, ◌<◌, ◌≤◌, ◌⊎◌, ℕ, zero, suc, Bool, true, List, length}
use Rattle.std.specs.Prelude.{slice_index}
use Rattle.std.specs.List.{count_by}
use Rattle.ev_incidence.specs.Sets.{is_member, has_mark, IsSubset}
use Rattle.ev_incidence.specs.Table.{row_at, AreRowsBelow}

-- one step: a row of x has y as a member
pub record IsLinked (index rows : List (List ℕ)) (x y : ℕ) : Type 0 where
  pub place : ℕ
  pub out : is_member (row_at index x) place ≡ true
  pub into : is_member (row_at rows place) y ≡ true

abbrev pub Trail : List (List ℕ) → List (List ℕ) → ℕ → ℕ → ℕ → Type 0
Trail index rows zero x y = x ≡ y
Trail index rows (suc n) x y = (z : ℕ) × Trail index rows n x z × IsLinked index rows z y

-- some start comes to y, by no step or more
pub record IsReachedFrom (index rows : List (List ℕ)) (starts : List ℕ) (y : ℕ) : Type 0 where
  pub start : ℕ
  pub in_starts : is_member starts start ≡ true
  pub steps : ℕ
  pub trail : Trail index rows steps start y

pub record AreReachedFrom (index rows : List (List ℕ)) (starts nodes : List ℕ) : Type 0 where
  pub each : (y : ℕ) → is_member nodes y ≡ true → IsReachedFrom index rows starts y

-- the members of these rows are among the nodes
pub record AreInto (rows : List (List ℕ)) (places nodes : List ℕ) : Type 0 where
  pub each : (j e : ℕ) → is_member places j ≡ true → is_member (row_at rows j) e ≡ true
      → is_member nodes e ≡ true

-- the places of the rows of the first nodes are among the places
pub record AreOut (index : List (List ℕ)) (n : ℕ) (nodes places : List ℕ) : Type 0 where
  pub each : (i j : ℕ) → i < n → i < length nodes
      → is_member (row_at index (slice_index nodes i)) j ≡ true → is_member places j ≡ true

-- each of the places is one of a row of the nodes
pub record AreOfNodes (index : List (List ℕ)) (nodes places : List ℕ) : Type 0 where
  pub each : (j : ℕ) → is_member places j ≡ true
      → (e : ℕ) × (is_member nodes e ≡ true) × (is_member (row_at index e) j ≡ true)

-- the nodes are just those that the starts come to, and the places just those of their rows
pub record IsReach (index rows : List (List ℕ)) (starts nodes places : List ℕ) : Type 0 where
  pub starts_in : IsSubset (is_member starts) (is_member nodes)
  pub out : (e j : ℕ) → is_member nodes e ≡ true → is_member (row_at index e) j ≡ true
      → is_member places j ≡ true
  pub into : (j e : ℕ) → is_member places j ≡ true → is_member (row_at rows j) e ≡ true
      → is_member nodes e ≡ true
  pub reached : (e : ℕ) → is_member nodes e ≡ true → IsReachedFrom index rows starts e
  pub no_other : AreOfNodes index nodes places

-- numbers below a size, in the order in which they were noted
pub record MarkedValue : Type 0 where
  pub size : ℕ
  pub items : List ℕ

pub record AreMarked (marks : List Bool) (items : List ℕ) : Type 0 where
  pub noted : (e : ℕ) → has_mark marks e ≡ true → is_member items e ≡ true
  pub marked : (e : ℕ) → is_member items e ≡ true → has_mark marks e ≡ true
  pub count : length items ≤ count_by (λ b. b) marks

-- the numbers from a place on stand in another order, and else nothing has changed
pub record IsSortedFrom (at : ℕ) (old new : List ℕ) : Type 0 where
  pub count : length new ≡ length old
  pub front : (i : ℕ) → i < at → slice_index new i ≡ slice_index old i
  pub same : (e : ℕ) → is_member new e ≡ is_member old e

-- a list with more at its end
pub record Extends (old new : List ℕ) : Type 0 where
  pub more : List ℕ
  pub is : new ≡ old ++ more

-- some of the numbers were added, and each is there
pub record AddsNodes (numbers old new : List ℕ) : Type 0 where
  pub extends : Extends old new
  pub all : IsSubset (is_member numbers) (is_member new)
  pub only : (e : ℕ) → is_member new e ≡ true → (is_member old e ≡ true)
      ⊎ (is_member numbers e ≡ true)

-- what taking the row at a place does
pub record TakesRow (rows : List (List ℕ)) (place : ℕ)
    (old_nodes old_places new_nodes new_places : List ℕ) : Type 0 where
  pub extends : Extends old_nodes new_nodes
  pub kept : IsSubset (is_member old_places) (is_member new_places)
  pub into : AreInto rows old_places old_nodes → AreInto rows new_places new_nodes
  pub only : (e : ℕ) → is_member new_nodes e ≡ true → (is_member old_nodes e ≡ true)
      ⊎ (is_member (row_at rows place) e ≡ true)
  pub no_other : (j : ℕ) → is_member new_places j ≡ true → (is_member old_places j ≡ true)
      ⊎ (place ≡ j)

-- the same of several
pub record TakesRows (rows : List (List ℕ))
    (own old_nodes old_places new_nodes new_places : List ℕ) : Type 0 where
  pub extends : Extends old_nodes new_nodes
  pub kept : IsSubset (is_member old_places) (is_member new_places)
  pub into : AreInto rows old_places old_nodes → AreInto rows new_places new_nodes
  pub all : IsSubset (is_member own) (is_member new_places)
  pub only : (e : ℕ) → is_member new_nodes e ≡ true
      → (is_member old_nodes e ≡ true)
      ⊎ ((j : ℕ) × (is_member own j ≡ true) × (is_member (row_at rows j) e ≡ true))
  pub no_other : (j : ℕ) → is_member new_places j ≡ true → (is_member old_places j ≡ true)
      ⊎ (is_member own j ≡ true)

-- a search may begin
pub record CanSearch (index rows : List (List ℕ)) (starts : List ℕ) (nodes places : MarkedValue) :
    Type 0 where
  pub no_node : nodes.items ≡ []
  pub no_place : places.items ≡ []
  pub starts_below : (i : ℕ) → i < length starts → slice_index starts i < nodes.size
  pub index_below : AreRowsBelow places.size index
  pub rows_below : AreRowsBelow nodes.size rows

-- what a search keeps
pub record IsSearching (index rows : List (List ℕ)) (starts : List ℕ) (at : ℕ)
    (nodes places : List ℕ) : Type 0 where
  pub starts_in : IsSubset (is_member starts) (is_member nodes)
  pub out : AreOut index at nodes places
  pub into : AreInto rows places nodes
  pub reached : AreReachedFrom index rows starts nodes
  pub no_other : AreOfNodes index nodes places
