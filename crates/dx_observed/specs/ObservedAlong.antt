-- What cases of a diagnosis module observe along entries.
use Rattle.std.specs.Prelude.{◌≡◌, ℕ, ◌+◌, ◌<◌, ◌^◌, ◌||◌, List, length, map, All, IsTrue}
use Rattle.fm_entry.specs.declared.entry.Entry.{Entry}
use Rattle.fm_entry.specs.declared.list_event.ListEvent.{ListEvent}
use Rattle.fm_entry.specs.declared.spoken.Spoken.{Spoken}
use Rattle.fm_core.specs.Folds.{state_along, words_along}
use Rattle.fm_core.specs.Meaning.{OpenCase, Diagnosis, Diagnosing}
use Rattle.dx_state.specs.Configured.{Rules}
use Rattle.dx_step.specs.Said.{event_names}
use Rattle.dx_step.specs.Turns.{graph_of}
use Rattle.dx_step.specs.Exact.{IsExact}
use Rattle.dx_meaning.specs.DiagnoserMeaning.{diagnoser_meaning}
use Rattle.dx_observed.specs.Reported.{JoinedReport, reported_along, had_observed, AreJust}
use Rattle.dx_observed.specs.Reported.{has_open}
use Rattle.dx_observed.specs.Reported.{has_said}
use Rattle.dx_observed.specs.ByReports.{ByReports}

-- the records of what the module says along entries, whose numbers count from n
abbrev pub told_along : Rules → Diagnosis → ℕ → List Entry → List Spoken
told_along r s n es = words_along (diagnoser_meaning r) (Diagnosing s) n es

-- what a word says that its case observed is just what was reported of it, from its entry on
abbrev pub IsJustWord : Rules → Diagnosis → List JoinedReport → ℕ → ListEvent → Type 0
IsJustWord r s js n w = AreJust (had_observed r s) js n w.case.case w.observed

-- so is what an open case of a state has observed
abbrev pub IsJustCase : Rules → Diagnosis → List JoinedReport → ℕ → Diagnosis → OpenCase → Type 0
IsJustCase r s js n t c =
    AreJust (had_observed r s) js n c.number (event_names (graph_of r t) c.observed)

-- the case of the number is open in the state, or one of the records has a word on it
abbrev pub IsOpenOrTold : Diagnosis → List Spoken → ℕ → Type 0
IsOpenOrTold t records k = IsTrue (has_open t.open_cases k || has_said records k)

-- Along entries from a state, whose numbers count from n, each report joins one case, and what each
-- case observes is just what it had observed in that state and the reports that joined it. Each
-- case that was open, and each that a report joined, is open afterwards or has a word said of it.
pub record ObservesReports (r : Rules) (s : Diagnosis) (n : ℕ) (es : List Entry) : Type 0 where
  pub after : Diagnosis
  pub state_is : state_along (diagnoser_meaning r) (Diagnosing s) n es ≡ Diagnosing after
  -- these are all reports, in order, as long as there are numbers for cases
  pub joined : List JoinedReport
  pub each : after.next < 2 ^ 63 → map (λ j. j.report) joined ≡ reported_along r s n es
  -- what is said and what is left has observed just its reports
  pub words : All (λ x. All (IsJustWord r s joined x.number) x.events) (told_along r s n es)
  pub cases : All (IsJustCase r s joined (n + length es) after) after.open_cases
  pub solved : All (IsJustWord r s joined (n + length es)) after.solved
  -- no case is lost
  pub kept : (k : ℕ) → IsTrue (has_open s.open_cases k)
      → IsOpenOrTold after (told_along r s n es) k
  pub arrived : All (λ j. IsOpenOrTold after (told_along r s n es) j.case) joined

-- The same, and what is said of a case names just the roots that explain its reports, in the graph
-- of the word's configuration less the links that their payloads broke.
pub record ExplainsReports (r : Rules) (s : Diagnosis) (n : ℕ) (es : List Entry) : Type 0 where
  pub observes : ObservesReports r s n es
  pub words :
      All (λ x. All (IsExact (ByReports (had_observed r s) observes.joined x.number) r) x.events)
      (told_along r s n es)
