-- What is answered to the lines of the input, and which entries they hold.
use Rattle.std.specs.Prelude.{ℕ, ◌+◌, ◌++◌, List, [], ◌∷◌, Bool, length, codes, decimal, Option}
use Rattle.std.specs.Prelude.{Some, None, Result, Ok, Err, unwrap_or, if◌then◌else◌}
use Rattle.fm_entry.specs.declared.entry.Entry.{Entry}
use Rattle.fm_line.specs.declared.fault.LineFault.{LineFault}
use Rattle.fm_line.specs.Faults.{code_of}
use Rattle.fm_line.specs.Outcomes.{line_outcome, entry_of}

-- `ok N`
abbrev pub ok_text : ℕ → List ℕ
ok_text number = codes "ok " ++ (decimal number ++ codes "\n")

-- `refused LINE CODE`
abbrev pub refused_text : ℕ → ℕ → List ℕ
refused_text line code =
    codes "refused " ++ (decimal line ++ (codes " " ++ (decimal code ++ codes "\n")))

-- the entry of a line, if it has one: none of a line that is skipped or has a fault
abbrev pub entries_at : Option (Result Entry LineFault) → List Entry
entries_at None = []
entries_at (Some result) = entry_of result

unfoldable pub entries_in : Option (List ℕ) → List Entry
entries_in line = entries_at (line_outcome line)

-- the entries of the lines that have no fault, in order
unfoldable pub entries_of : List (Option (List ℕ)) → List Entry
entries_of [] = []
entries_of (line ∷ lines) = entries_in line ++ entries_of lines

-- the answer to a line of this number, where the next entry has the number `next`. Where `is_told`
-- is false, nothing is said of an entry that was taken.
abbrev pub answer_to : Bool → ℕ → ℕ → Result Entry LineFault → List ℕ
answer_to is_told number next (Ok entry) = if is_told then ok_text next else []
answer_to is_told number next (Err fault) = refused_text number (unwrap_or (code_of fault) 0)

-- the answer to a line: none to one that is skipped
abbrev pub answer_at : Bool → ℕ → ℕ → Option (Result Entry LineFault) → List ℕ
answer_at is_told number next None = []
answer_at is_told number next (Some result) = answer_to is_told number next result

unfoldable pub answer : Bool → ℕ → ℕ → Option (List ℕ) → List ℕ
answer is_told number next line = answer_at is_told number next (line_outcome line)

-- the answers to lines, the first of which has this number
unfoldable pub answers : Bool → ℕ → ℕ → List (Option (List ℕ)) → List ℕ
answers is_told number next [] = []
answers is_told number next (line ∷ lines) =
    answer is_told number next line
    ++ answers is_told (number + 1) (next + length (entries_in line)) lines
