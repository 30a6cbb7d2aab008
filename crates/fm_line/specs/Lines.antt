-- The lines of a stream of bytes, as a function of the whole stream: what stands between its
-- newlines, and after the last newline what stands there, if anything does. A line that is too long
-- is a line without bytes.
use Rattle.std.specs.Prelude.{ℕ, ◌≡◌, ◌==◌, ◌+◌, ◌≤◌, ◌++◌, ◌∷◌, min, [], List, Bool, false, length}
use Rattle.std.specs.Prelude.{map, nat_le, if◌then◌else◌, Option, Some, None, All}
use Rattle.std.specs.List.{slice_split, after_first, position_or_len}
use Rattle.fm_line.specs.declared.split.Whole.{Whole}
use Rattle.fm_line.specs.declared.split.Whole.TheVariants.{Line, TooLong}

-- the most bytes of a line, without its newline and with its final carriage return
abbrev pub line_limit : ℕ
line_limit = 65536

abbrev pub is_newline : ℕ → Bool
is_newline b = b == 10

abbrev pub HasNoNewline : List ℕ → Type 0
HasNoNewline bytes = All (λ b. is_newline b ≡ false) bytes

-- what is kept of a line: its bytes, or none of one that is too long
abbrev pub kept_line : List ℕ → Option (List ℕ)
kept_line line = if nat_le (length line) line_limit then Some line else None

-- the lines in the parts between newlines: an empty last part is no line
abbrev pub lines_of_parts : List (List ℕ) → List (List ℕ)
lines_of_parts [] = []
lines_of_parts (x ∷ []) = if length x == 0 then [] else x ∷ []
lines_of_parts (x ∷ y ∷ more) = x ∷ lines_of_parts (y ∷ more)

-- the lines of a stream, each as it is kept
unfoldable pub lines_of : List ℕ → List (Option (List ℕ))
lines_of bytes = map kept_line (lines_of_parts (slice_split is_newline bytes))

-- the lines of a stream whose first bytes, all of one line, were already read and kept
unfoldable pub lines_from : Option (List ℕ) → List ℕ → List (Option (List ℕ))
lines_from (Some front) bytes = lines_of (front ++ bytes)
lines_from None bytes = None ∷ lines_of (after_first is_newline bytes)

-- what is kept of the line in progress once further bytes of it are read
abbrev pub grown : Option (List ℕ) → List ℕ → Option (List ℕ)
grown (Some front) piece = kept_line (front ++ piece)
grown None _ = None

-- a line that has ended, by how it ended and the bytes that are handed out
abbrev pub ended_line : Whole → List ℕ → Option (List ℕ)
ended_line Line line = Some line
ended_line TooLong _ = None

-- the lines that one call ended: none, or the one that it tells of
abbrev pub ended_lines : Option Whole → List ℕ → List (Option (List ℕ))
ended_lines None _ = []
ended_lines (Some whole) line = ended_line whole line ∷ []

-- how many bytes of a piece belong to the line in progress, its newline with them
abbrev pub taken_len : List ℕ → ℕ
taken_len piece = min (position_or_len is_newline piece + 1) (length piece)

-- both buffers have room for a line of the greatest length, and what is pending is within the limit
-- and has no newline
pub record IsBuffered (pending_room line_room : ℕ) (pending : List ℕ) : Type 0 where
  pub pending_fits : line_limit ≤ pending_room
  pub line_fits : line_limit ≤ line_room
  pub short : length pending ≤ line_limit
  pub free : HasNoNewline pending

-- a splitter: what it keeps of the line in progress, and the line last ended
pub record Splitting : Type 0 where
  pub pending : Option (List ℕ)
  pub line : List ℕ
