-- Open cases as rows.
use Rattle.std.specs.Prelude.{ℕ, List, length, map}
use Rattle.fm_core.specs.Meaning.{OpenCase}
use Rattle.dx_case.specs.declared.case.Case.{Case}
use Rattle.dx_case.specs.Cases.{open_of}
use Rattle.dx_engine.specs.declared.rows.OpenRow.{OpenRow}

-- the row of an open case of the module of a number
abbrev pub open_row : ℕ → OpenCase → OpenRow
open_row own c = record {
  case = record { «module» = own; case = c.number };
  reports = length c.entries;
}

abbrev pub rows_of : ℕ → List Case → List OpenRow
rows_of own cs = map (open_row own) (map open_of cs)
