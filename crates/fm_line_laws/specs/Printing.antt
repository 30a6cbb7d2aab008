-- What is said of the line that is printed for an entry.
use Rattle.std.specs.Prelude.{ℕ, ◌≡◌, ◌≤◌, List, length, Some, Ok}
use Rattle.fm_entry.specs.declared.entry.Entry.{Entry}
use Rattle.fm_entry.specs.declared.entry.Entry.TheVariants.{Report}
use Rattle.fm_line.specs.Forms.{line_entry}
use Rattle.fm_line.specs.Payload.{list_of}
use Rattle.fm_line.specs.Printed.{payload_data, line_text}

-- the payload of a report is what its own JSON says
abbrev pub HasReadPayload : Entry → Type 0
HasReadPayload (Report class path moment payload) = list_of (payload_data payload) ≡ Some payload
HasReadPayload _ = Unit {0}

-- if some line gives the entry, the line that is printed for it gives it too
abbrev pub LineReadsBack : Entry → Type 0
LineReadsBack entry = (line : List ℕ) → line_entry line ≡ Ok entry
    → line_entry (line_text entry) ≡ Ok entry

-- what is printed is no longer than any line that gives the entry
abbrev pub IsShortest : Entry → Type 0
IsShortest entry = (line : List ℕ) → line_entry line ≡ Ok entry
    → length (line_text entry) ≤ length line
