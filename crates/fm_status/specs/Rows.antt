-- The rows of a status: the last word of each case spoken of, in the order of cases.
use Rattle.std.specs.Prelude.{◌≡◌, ◌<◌, ℕ, List, [], ◌∷◌, length, map, cond, Option, Some, None}
use Rattle.std.specs.Option.{option_or}
use Rattle.std.specs.declared.cmp.Ordering.{Ordering}
use Rattle.std.specs.Ordering.{nat_cmp, ordering_then, match_ordering, is_eq}
use Rattle.std.specs.List.{slice_get, Contains}
use Rattle.std.specs.List.Sorted.{IsStrictlySortedBy}
use Rattle.std.specs.Map.{keys_of, values_of}
use Rattle.fm_entry.specs.declared.case_name.CaseName.{CaseName}
use Rattle.fm_entry.specs.declared.list_event.ListEvent.{ListEvent}

-- the order of cases: by module, then by number
abbrev pub case_cmp : CaseName → CaseName → Ordering
case_cmp x y = ordering_then (nat_cmp x.module y.module) (nat_cmp x.case y.case)

-- the key of a case, and the order of keys: by the first number, then by the second
abbrev pub case_key : CaseName → ℕ × ℕ
case_key case = (case.module, case.case)

abbrev pub key_cmp : ℕ × ℕ → ℕ × ℕ → Ordering
key_cmp x y = ordering_then (nat_cmp x.0 y.0) (nat_cmp x.1 y.1)

-- at the place of each key stands the row of its case
abbrev pub AreRowsAt : List ListEvent → List ((ℕ × ℕ) × ℕ) → Type 0
AreRowsAt rows [] = Unit {0}
AreRowsAt rows (entry ∷ entries) =
    ((row : ListEvent) × ((slice_get rows entry.1 ≡ Some row) × (entry.0 ≡ case_key row.case)))
    × AreRowsAt rows entries

-- rows in any order, each with the place of its key, and the keys ascend
pub record ArePlacedRows (rows : List ListEvent) (entries : List ((ℕ × ℕ) × ℕ)) : Type 0 where
  pub ascend : IsStrictlySortedBy key_cmp (keys_of entries)
  pub are_at : AreRowsAt rows entries
  pub have_places : (place : ℕ) → place < length rows → Contains (values_of entries) place

-- a row where one was found, before others
abbrev pub with_found : Option ListEvent → List ListEvent → List ListEvent
with_found None rows = rows
with_found (Some row) rows = row ∷ rows

-- the rows at places, in the order of the places
abbrev pub placed_rows : List ListEvent → List ℕ → List ListEvent
placed_rows rows [] = []
placed_rows rows (place ∷ places) = with_found (slice_get rows place) (placed_rows rows places)

-- the row of a case
abbrev pub case_row : CaseName → List ListEvent → Option ListEvent
case_row case [] = None
case_row case (row ∷ rows) = cond (is_eq (case_cmp case row.case)) (Some row) (case_row case rows)

-- the last of some words that speaks of a case
abbrev pub last_word : CaseName → List ListEvent → Option ListEvent
last_word case [] = None
last_word case (word ∷ words) =
    option_or (last_word case words) (cond (is_eq (case_cmp case word.case)) (Some word) None)

-- The rows of words: in the order of cases, one for each case that was spoken of, and that is the
-- last word of it.
pub record AreRows (words rows : List ListEvent) : Type 0 where
  pub ascend : IsStrictlySortedBy case_cmp (map (λ row. row.case) rows)
  pub last : (case : CaseName) → case_row case rows ≡ last_word case words

-- the rows with one more word: it takes the row of its case, or has a new one
abbrev pub put_row : List ListEvent → ListEvent → List ListEvent
put_row [] word = word ∷ []
put_row (row ∷ rows) word =
    match_ordering (case_cmp word.case row.case)
    (word ∷ row ∷ rows) (word ∷ rows) (row ∷ put_row rows word)

-- the rows with more words, in turn
abbrev pub put_rows : List ListEvent → List ListEvent → List ListEvent
put_rows rows [] = rows
put_rows rows (word ∷ words) = put_rows (put_row rows word) words

-- the rows of some words
unfoldable pub rows_of : List ListEvent → List ListEvent
rows_of words = put_rows [] words
