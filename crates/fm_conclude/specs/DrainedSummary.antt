-- The summary of a drained book.
use Rattle.std.specs.Prelude.{ℕ, ◌+◌, List, [], ◌∷◌, ◌++◌, length, map}
use Rattle.dx_engine.specs.declared.rows.OpenRow.{OpenRow}
use Rattle.fm_adm.specs.Summary.{IsSummary}
use Rattle.fm_adm.specs.declared.summary.OpenReports.{OpenReports}
use Rattle.fm_core.specs.Drained.{Drained, Ended}
use Rattle.fm_core.specs.Hands.{Shown}
use Rattle.fm_core.specs.Meaning.{State, Diagnosing, OpenCase}
use Rattle.fm_entry.specs.declared.list_event.ListEvent.{ListEvent}
use Rattle.fm_drain.specs.CaseStatus.{IsStatusOf}

-- an open case of the module of a number, with how many reports joined it
abbrev pub open_report : ℕ → OpenCase → OpenReports
open_report own c = record {
  case = record { «module» = own; case = c.number };
  reports = length c.entries;
}

-- the same of the row of a case
abbrev pub reports_by : OpenRow → OpenReports
reports_by row = record { case = row.case; reports = row.reports }

-- the open cases of a state of the module of a number; there are none in a state of another kind
abbrev pub open_by_state : ℕ → State → List OpenReports
open_by_state own (Diagnosing s) = map (open_report own) s.open_cases
open_by_state own _ = []

-- of a hand
abbrev pub open_of_shown : Shown → List OpenReports
open_of_shown h = open_by_state h.meaning.own h.state

-- of modules at the end, whose numbers count from one on
abbrev pub open_from : ℕ → List Ended → List OpenReports
open_from own [] = []
open_from own (e ∷ es) = open_by_state own e.state ++ open_from (own + 1) es

-- of a drained book, module by module
abbrev pub open_cases_of : Drained → List OpenReports
open_cases_of d = open_from 0 d.modules

-- The text is the summary of a drained book: of the number of its entries, of its open cases, and
-- of its status.
pub record IsSummaryOf (d : Drained) (text : List ℕ) : Type 0 where
  pub rows : List ListEvent
  pub status : IsStatusOf d rows
  pub summary : IsSummary d.count (open_cases_of d) rows text
