-- The lines of a topology text, and the words of a line.
use Rattle.std.specs.Prelude.{ℕ, Bool, false, not, ◌&&◌, ◌||◌, ◌==◌, ◌-◌, ◌+◌, min, nat_lt, nat_le}
use Rattle.std.specs.Prelude.{List, [], ◌∷◌, length, take, slice_index, sum_by, if◌then◌else◌}
use Rattle.std.specs.List.{slice_split, onto_first, list_all, list_any, before_first, after_first}

-- the parts of a text between its newlines; behind a last newline stands an empty line, which says
-- nothing
abbrev pub topology_lines : List ℕ → List (List ℕ)
topology_lines text = slice_split (λ b. b == 10) text

-- a line without the carriage return at its end
unfoldable pub content_of : List ℕ → List ℕ
content_of line = if (nat_lt 0 (length line) && slice_index line (length line - 1) == 13) then take
    (length line - 1) line else line

-- how many bytes of the text end with the line of that number, its newline with it
unfoldable pub line_end : List ℕ → ℕ → ℕ
line_end text number =
    min (sum_by (λ line. length line + 1) (take (number + 1) (topology_lines text))) (length text)

-- a byte that may stand in a line: 0x20 to 0x7e and tab
abbrev pub is_clean_byte : ℕ → Bool
is_clean_byte b = (nat_le 32 b && nat_le b 126) || b == 9

-- a blank: space or tab
abbrev pub is_blank_byte : ℕ → Bool
is_blank_byte b = b == 32 || b == 9

-- a line that is skipped: blanks alone or nothing, or `#` in front
unfoldable pub is_skipped : List ℕ → Bool
is_skipped content = list_all is_blank_byte content || slice_index content 0 == 35

-- the words of a text, which is parted at its spaces; those between two quotes do not part it
abbrev pub parted_words : Bool → List ℕ → List (List ℕ)
parted_words quoted [] = [] ∷ []
parted_words quoted (b ∷ bytes) =
    if (b == 32 && not quoted) then [] ∷ parted_words false bytes
    else onto_first b (parted_words (if b == 34 then not quoted else quoted) bytes)

-- the path of a line: what stands before its first space
unfoldable pub path_of : List ℕ → List ℕ
path_of content = before_first (λ b. b == 32) content

-- the words of a line behind its path, of which there are none where there is no space
unfoldable pub words_of : List ℕ → List (List ℕ)
words_of content = if list_any (λ b. b == 32) content then parted_words false
    (after_first (λ b. b == 32) content) else []
