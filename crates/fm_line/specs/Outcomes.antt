-- What comes of a line of a stream: its entry, its fault, or nothing where it is skipped.
use Rattle.std.specs.Prelude.{ℕ, List, [], ◌∷◌, if◌then◌else◌, Option, Some, None, Result, Ok, Err}
use Rattle.fm_entry.specs.declared.entry.Entry.{Entry}
use Rattle.fm_line.specs.Blank.{is_blank_line}
use Rattle.fm_line.specs.Forms.{line_entry}
use Rattle.fm_line.specs.declared.fault.LineFault.{LineFault}
use Rattle.fm_line.specs.declared.fault.LineFault.TheVariants.{TooLong}

-- what comes of a line as it is kept: the fault of one that is too long, nothing of a blank one,
-- and else its entry or its first fault
abbrev pub line_outcome : Option (List ℕ) → Option (Result Entry LineFault)
line_outcome None = Some (Err TooLong)
line_outcome (Some line) = if is_blank_line line then None else Some (line_entry line)

-- the entry of an outcome, if it has one
abbrev pub entry_of : Result Entry LineFault → List Entry
entry_of (Ok entry) = entry ∷ []
entry_of (Err fault) = []
