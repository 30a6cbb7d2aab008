-- The summary of a run.
use Rattle.std.specs.Prelude.{◌≡◌, ℕ, Bool, true, false, List, ◌++◌, length, map, flat_map}
use Rattle.std.specs.Prelude.{codes, decimal}
use Rattle.std.specs.List.{filter}
use Rattle.std.specs.List.Sorted.{IsPermutation, IsSortedBy}
use Rattle.std.specs.Ordering.{is_lt}
use Rattle.fm_entry.specs.CaseText.{case_text}
use Rattle.fm_entry.specs.declared.case_name.CaseName.{CaseName}
use Rattle.fm_entry.specs.declared.list_event.ListEvent.{ListEvent}
use Rattle.fm_entry.specs.declared.list_event.ListKind.{ListKind}
use Rattle.fm_entry.specs.declared.list_event.ListKind.TheVariants as kind
use Rattle.fm_status.specs.Rows.{case_cmp}
use Rattle.fm_status.specs.Wanted.{is_solved, IsWantedOf}
use Rattle.fm_adm.specs.Config.{named_count}
use Rattle.fm_adm.specs.declared.summary.OpenReports.{OpenReports}
use Rattle.fm_adm.specs.declared.summary.CaseLine.{CaseLine}
use Rattle.fm_adm.specs.declared.summary.RowStanding.{RowStanding}
use Rattle.fm_adm.specs.declared.summary.RowStanding.TheVariants as stands

-- whether a word of this kind leaves its case so
abbrev pub has_standing : RowStanding → ListKind → Bool
has_standing stands.Solved kind = is_solved kind
has_standing stands.Upset kind.Upset = true
has_standing stands.Undiagnosable kind.Undiagnosable = true
has_standing stands.Repaired kind.Repaired = true
has_standing _ _ = false

-- how many rows stand so
abbrev pub rows_so : RowStanding → List ListEvent → ℕ
rows_so standing rows = length (filter (λ row. has_standing standing row.kind) rows)

-- how many entries there were
abbrev pub entries_line : ℕ → List ℕ
entries_line entries = named_count (codes "entries ") entries ++ codes "\n"

-- how many cases are open and solved
abbrev pub standing_part : ℕ → List ListEvent → List ℕ
standing_part count rows = named_count (codes "cases open ") count
    ++ named_count (codes " solved ") (rows_so stands.Solved rows)

-- how many cases no fault explains
abbrev pub unsolved_part : List ListEvent → List ℕ
unsolved_part rows = named_count (codes " upset ") (rows_so stands.Upset rows)
    ++ named_count (codes " undiagnosable ") (rows_so stands.Undiagnosable rows)

-- how many cases were repaired
abbrev pub repaired_part : List ListEvent → List ℕ
repaired_part rows = named_count (codes " repaired ") (rows_so stands.Repaired rows) ++ codes "\n"

-- how many cases were ended in another way
abbrev pub ended_part : List ListEvent → List ℕ
ended_part rows = unsolved_part rows ++ repaired_part rows

-- the numbers of entries, of open cases and of rows
abbrev pub counts_text : ℕ → ℕ → List ListEvent → List ℕ
counts_text entries count rows =
    entries_line entries ++ (standing_part count rows ++ ended_part rows)

-- the case that a line is of
abbrev pub line_case : CaseLine → CaseName
line_case line = record { «module» = line.module; case = line.case }

-- an open case, with the number of its reports
abbrev pub open_line : OpenReports → CaseLine
open_line one = record {
  «module» = one.case.module;
  case = one.case.case;
  solved = false;
  count = one.reports;
}

-- a solved case, with the number of its suspects
abbrev pub solved_line : ListEvent → CaseLine
solved_line row = record {
  «module» = row.case.module;
  case = row.case.case;
  solved = true;
  count = length row.suspects;
}

-- the lines of the open and of the solved cases
abbrev pub standing_lines : List OpenReports → List ListEvent → List CaseLine
standing_lines cases rows =
    map open_line cases ++ map solved_line (filter (λ row. is_solved row.kind) rows)

-- how a case stands
abbrev pub standing_text : Bool → List ℕ
standing_text true = codes " solved "
standing_text false = codes " open "

-- the line of a case
unfoldable pub case_line : CaseLine → List ℕ
case_line line =
    codes "case " ++ (case_text (line_case line)
    ++ (standing_text line.solved ++ (decimal line.count ++ codes "\n")))

-- the line of a resource that is wanted out of use
unfoldable pub retire_line : List ℕ → List ℕ
retire_line path = codes "retire " ++ (path ++ codes "\n")

-- a line of a case doesn't stand behind one of an earlier case
abbrev pub ByCase : List CaseLine → Type 0
ByCase lines = IsSortedBy (λ x y. is_lt (case_cmp (line_case x) (line_case y))) lines

-- The numbers, a line for each open or solved case in case order, and a line for each path that is
-- wanted out of use, in path order.
pub record IsSummary (entries : ℕ) (cases : List OpenReports) (rows : List ListEvent)
    (text : List ℕ) : Type 0 where
  pub lines : List CaseLine
  pub wanted : List (List ℕ)
  pub all : IsPermutation (standing_lines cases rows) lines
  pub order : ByCase lines
  pub wants : IsWantedOf rows wanted
  pub reads : text ≡ counts_text entries (length cases) rows
      ++ (flat_map case_line lines ++ flat_map retire_line wanted)
