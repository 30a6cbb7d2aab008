-- What diagnosis modules say along entries, word by word.
use Rattle.std.specs.Prelude.{◌≡◌, ℕ, List, All, IsTrue, slice_get, Some}
use Rattle.fm_entry.specs.declared.entry.Entry.{Entry}
use Rattle.fm_entry.specs.declared.spoken.Spoken.{Spoken}
use Rattle.fm_core.specs.Book.{Book, ModuleState}
use Rattle.fm_core.specs.Drained.{Ended, drained}
use Rattle.fm_core.specs.Folds.{state_along, words_along}
use Rattle.fm_core.specs.Meaning.{State, Diagnosing, Diagnosis, holds_of}
use Rattle.fm_core.specs.Records.{numbered_from}
use Rattle.ev_graph.specs.Lawful.{IsGraph}
use Rattle.dx_explain.specs.CaseLaws.{HasPending}
use Rattle.dx_state.specs.Configured.{Rules, Configuration}
use Rattle.dx_step.specs.Exact.{ByStories, IsExact, HaveGraphs}
use Rattle.dx_step.specs.Turns.{graph_of}
use Rattle.dx_meaning.specs.DiagnoserMeaning.{diagnoser_meaning}

-- a module at the base that is made with these rules, which have graphs, and is in a lawful state
pub record IsDiagnoserOf (r : Rules) (p : ModuleState) : Type 0 where
  pub meaning_is : p.meaning ≡ diagnoser_meaning r
  pub holds : IsTrue (holds_of p.meaning p.state)
  pub graphs : HaveGraphs r

-- each word of the records names just the roots that explain what it observed
abbrev pub AllExact : Rules → List Spoken → Type 0
AllExact r records = All (λ x. All (IsExact ByStories r) x.events) records

-- the state of a diagnosis module, of which each open case has a pending report
pub record WaitsForReports (r : Rules) (s : State) : Type 0 where
  pub diagnosis : Diagnosis
  pub state_is : s ≡ Diagnosing diagnosis
  pub waits : All (HasPending (graph_of r diagnosis) diagnosis.time) diagnosis.open_cases

-- along entries whose numbers count from n
pub record IsExactAlong (r : Rules) (p : ModuleState) (n : ℕ) (es : List Entry) : Type 0 where
  pub words : AllExact r (words_along p.meaning p.state n es)
  pub waits : WaitsForReports r (state_along p.meaning p.state n es)

-- of a module at the end, with the records that are numbered from the base on
pub record IsExactEnd (r : Rules) (base : ℕ) (e : Ended) : Type 0 where
  pub words : AllExact r (numbered_from base e.words)
  pub waits : WaitsForReports r e.state

-- of each module of a drained book
abbrev pub IsExactBook : List Rules → Book → Type 0
IsExactBook rules k = (i : ℕ) (r : Rules) (e : Ended) → slice_get rules i ≡ Some r
    → slice_get (drained k).modules i ≡ Some e → IsExactEnd r k.base e

-- the configuration has a graph that is one
abbrev pub HasGraph : Configuration → Type 0
HasGraph x = IsGraph x.graph
