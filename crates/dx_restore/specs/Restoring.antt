-- What it is to make the parts of a kept state again.
use Rattle.std.specs.Prelude.{◌≡◌, ℕ, true, List, map, IsTrue}
use Rattle.std.specs.List.{list_all, All}
use Rattle.fm_core.specs.Meaning.{OpenCase, Diagnosis}
use Rattle.ev_graph.specs.Lawful.{GraphValue}
use Rattle.dx_explain.specs.Cases.{waits}
use Rattle.dx_state.specs.LawfulState.{are_engines}
use Rattle.dx_case.specs.declared.case.Case.{Case}
use Rattle.dx_case.specs.Cases.{open_of}
use Rattle.dx_case.specs.Facts.{facts_fit}
use Rattle.dx_restore.specs.Parts.{IsCaseAt}

-- the open cases and the engines of a state can be so in a graph
pub record IsRestorable (g : GraphValue) (s : Diagnosis) : Type 0 where
  pub cases : list_all (facts_fit g s.time) s.open_cases ≡ true
  pub engines : IsTrue (are_engines s.time g.engines s.engines)

-- these cases of the graph, at the time, are those open cases, each of which waits
pub record AreCasesAgain (g : GraphValue) (time : ℕ) (kept : List OpenCase) (cases : List Case) :
    Type 0 where
  pub same : map open_of cases ≡ kept
  pub at : All (IsCaseAt g time) cases
  pub waiting : list_all (waits g time) kept ≡ true
