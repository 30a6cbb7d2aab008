-- Saved bytes behind their length.
use Rattle.std.specs.Prelude.{ℕ, ◌<◌, ◌^◌, List, length}
use Rattle.fm_bytes.specs.Reading.{Read, after, number_from, piece_from}

-- their length has four bytes
abbrev pub FitsLongText : List ℕ → Type 0
FitsLongText saved = length saved < 2 ^ 32

-- bytes behind their length in four bytes
unfoldable pub saved_from : List ℕ → Read (List ℕ)
saved_from bytes = after (number_from 4 bytes) (λ n rest. piece_from n rest)
