-- The text of what is faulty.
use Rattle.std.specs.Prelude.{ℕ, List, [], ◌++◌, cond, codes, flat_map}
use Rattle.uuid.specs.Text.{hyphenated_text, lower}
use Rattle.fm_text.specs.Time.{time_text}
use Rattle.fm_entry.specs.CaseText.{case_text}
use Rattle.fm_entry.specs.declared.case_name.CaseName.{CaseName}
use Rattle.fm_entry.specs.declared.list_event.ListEvent.{ListEvent}
use Rattle.fm_status.specs.Lines.{suspect_line}
use Rattle.fm_status.specs.Names.{case_uuid}
use Rattle.fm_status.specs.Wanted.{is_solved}

-- the UUID and the name of a case, with a space behind each
abbrev pub named_case : List ℕ → CaseName → List ℕ
named_case namespace case =
    hyphenated_text lower (case_uuid namespace case) ++ (codes " " ++ (case_text case ++ codes " "))

-- the line of a row: its case and its moment
unfoldable pub row_line : List ℕ → ListEvent → List ℕ
row_line namespace row =
    named_case namespace row.case ++ (time_text row.moment ++ codes "\n")

-- the lines of a row, where its case is solved
abbrev pub row_lines : List ℕ → ListEvent → List ℕ
row_lines namespace row =
    cond (is_solved row.kind) (row_line namespace row ++ flat_map suspect_line row.suspects) []

-- the lines of all rows
abbrev pub faulty_text : List ℕ → List ListEvent → List ℕ
faulty_text namespace rows = flat_map (row_lines namespace) rows
