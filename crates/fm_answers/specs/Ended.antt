-- The lines that end in the bytes that were read so far.
use Rattle.std.specs.Prelude.{ℕ, List, Option, take, count_by}
use Rattle.fm_line.specs.Lines.{is_newline, lines_of}

-- the lines that end in these bytes: as many as there are newlines
unfoldable pub ended : List ℕ → List (Option (List ℕ))
ended bytes = take (count_by is_newline bytes) (lines_of bytes)
