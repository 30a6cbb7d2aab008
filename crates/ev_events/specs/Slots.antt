-- How a pattern is read: which part its parts must be equal to, and where its iterators stand.
use Rattle.std.specs.Prelude.{ℕ, Bool, ◌==◌, List, [], ◌∷◌, zip, map, fold, position, unwrap_or}
use Rattle.std.specs.Prelude.{Option, Some, None, slice_get, slice_index, nat_lt}
use Rattle.std.specs.Prelude.{if◌then◌else◌}
use Rattle.std.specs.List.{list_all}
use Rattle.ev_tree.specs.declared.tree.At.{At}
use Rattle.ev_tree.specs.declared.tree.At.TheVariants as ats
use Rattle.ev_tree.specs.declared.tree.Part.{Part}
use Rattle.ev_words.specs.Iterators.{same_name, goes_down, goes_across}
use Rattle.ev_events.specs.Names.{iterator_of}
use Rattle.ev_events.specs.Fits.{is_that}
use Rattle.ev_events.specs.declared.slots.Slot.{Slot}
use Rattle.ev_events.specs.declared.slots.Slot.TheVariants.{Constant, Like}
use Rattle.ev_events.specs.declared.slots.Column.{Column}

-- the place of the first item that passes a test, or 0
abbrev pub first_place : {X : Type 0} → (X → Bool) → List X → ℕ
first_place test xs = unwrap_or (position test xs) 0

-- what a part asks of an instance: to be a constant, or like that at the first part with the same
-- iterator
abbrev pub slot_at : List Part → List ℕ → At → Slot
slot_at parts name ats.Bare = Like (first_place (goes_down name) parts)
slot_at parts name (ats.Down v) = Like (first_place (goes_down v) parts)
slot_at parts name (ats.Number n) = Constant n
slot_at parts name (ats.Across v) = Like (first_place (goes_across v) parts)

abbrev pub slot_of : List Part → Part → Slot
slot_of parts p = slot_at parts p.name p.at

abbrev pub slots_of : List Part → List Slot
slots_of parts = map (slot_of parts) parts

-- an instance among others is what the slot asks for
abbrev pub keeps : List ℕ → Slot → ℕ → Bool
keeps xs (Constant n) x = n == x
keeps xs (Like place) x = is_that (slice_get xs place) x

abbrev pub keep_all : List Slot → List ℕ → Bool
keep_all slots xs = list_all (λ p. keeps xs p.0 p.1) (zip slots xs)

-- the number of an iterator among names, and the first part of a pattern that has it
abbrev pub column_of : List (List ℕ) → List Part → List ℕ → Column
column_of vs parts v = record {
  number = first_place (same_name v) vs;
  place = first_place (goes_down v) parts;
}

-- columns in order of their numbers with one more, where its number is none of theirs
abbrev pub with_column : List Column → Column → List Column
with_column [] c = c ∷ []
with_column (d ∷ ds) c =
    if nat_lt c.number d.number then c ∷ d ∷ ds
    else (if c.number == d.number then d ∷ ds else d ∷ with_column ds c)

abbrev pub with_column_if : List (List ℕ) → List Part → List Column → Option (List ℕ) → List Column
with_column_if vs parts columns None = columns
with_column_if vs parts columns (Some v) = with_column columns (column_of vs parts v)

-- the columns of a pattern: its vertical iterators, in order of their numbers
abbrev pub columns_of : List (List ℕ) → List Part → List Column
columns_of vs parts = fold (λ cs p. with_column_if vs parts cs (iterator_of p)) [] parts

-- the instances that stand at the columns
abbrev pub values_at : List Column → List ℕ → List ℕ
values_at columns xs = map (λ c. slice_index xs c.place) columns
