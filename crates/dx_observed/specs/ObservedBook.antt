-- What the cases of a drained book observe: of each of its modules, along the entries of the book.
use Rattle.std.specs.Prelude.{◌≡◌, ℕ, ◌++◌, List, slice_get, Some}
use Rattle.fm_core.specs.Book.{Book, ModuleState}
use Rattle.fm_core.specs.Drained.{Ended, drained}
use Rattle.fm_core.specs.Folds.{state_along}
use Rattle.fm_core.specs.Meaning.{Diagnosis, Diagnosing}
use Rattle.fm_core.specs.Records.{of_module, numbered_before}
use Rattle.dx_state.specs.Configured.{Rules}
use Rattle.dx_meaning.specs.DiagnoserMeaning.{diagnoser_meaning}
use Rattle.dx_observed.specs.ObservedAlong.{ExplainsReports, told_along}

-- the diagnosis module that is made with these rules, in a state
abbrev pub diagnoser_in : Rules → Diagnosis → ModuleState
diagnoser_in r s = record { meaning = diagnoser_meaning r; state = Diagnosing s }

-- A module at the end, of a book in which it stands at a place: its words are those from before the
-- base, and those that it says along the entries from its state there; and what it says explains
-- all reports along them.
pub record ExplainsEnd (r : Rules) (k : Book) (i : ℕ) (e : Ended) : Type 0 where
  pub first : Diagnosis
  pub module_is : slice_get k.modules i ≡ Some (diagnoser_in r first)
  pub state_is : e.state ≡ state_along (diagnoser_meaning r) (Diagnosing first) k.base k.entries
  pub words_are : e.words ≡ of_module r.own (numbered_before k.base k.records)
      ++ told_along r first k.base k.entries
  pub explains : ExplainsReports r first k.base k.entries

-- so does each module of a drained book
abbrev pub ExplainsBook : List Rules → Book → Type 0
ExplainsBook rules k = (i : ℕ) (r : Rules) (e : Ended) → slice_get rules i ≡ Some r
    → slice_get (drained k).modules i ≡ Some e → ExplainsEnd r k i e
