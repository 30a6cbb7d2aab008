-- What is said of all spellings of lists at once.
use Rattle.std.specs.Prelude.{◌≡◌, ℕ, List, ◌++◌, Some}
use Rattle.fm_nv.specs.Data.{Pairs}
use Rattle.fm_nv.specs.Reading.{list_from}
use Rattle.fm_nv.specs.Spelled.{IsSpelledList, pairs_bytes}

-- the spelling of a list reads as the list, and leaves what follows
abbrev pub ListsReadBack : Type 0
ListsReadBack =
    (ps : Pairs) (rest : List ℕ) → IsSpelledList ps
    → list_from 8 (pairs_bytes ps ++ rest) ≡ Some (ps, rest)

-- no spelling of a list is a proper prefix of another's: the list and what follows it are told
-- apart
abbrev pub NoPrefix : Type 0
NoPrefix =
    (ps qs : Pairs) (xs ys : List ℕ) → IsSpelledList ps → IsSpelledList qs
    → pairs_bytes ps ++ xs ≡ pairs_bytes qs ++ ys → (ps ≡ qs) × (xs ≡ ys)
