-- What is saved of a standing state, and bytes that save none.
use Rattle.std.proofs.Common.{◌≡◌, ℕ, List, map, refl, sym, subst}
use Rattle.std.specs.List.{All}
use Rattle.std.proofs.lemmas.Bool.{false≢true}
use Rattle.fm_core.specs.Meaning.{Counting, Diagnosing, Foreign, IsNoSave}
use Rattle.dx_case.specs.Cases.{open_of}
use Rattle.dx_meaning.specs.DiagnoserMeaning.{diagnoser_meaning}
use Rattle.dx_state.specs.Configured.{Rules}
use Rattle.dx_restore.specs.declared.parts.Parts.{Parts}
use Rattle.dx_restore.specs.Loading.{SpellsNone}
use Rattle.dx_restore.specs.Parts.{parts_state}
use Rattle.dx_restore.specs.Saving.{IsLawfulSomewhere, IsShortCase}
use Rattle.dx_restore.proofs.Short.{cases_short_in}
use Rattle.dx_turn.specs.declared.tracked.Tracked.{Tracked}
use Rattle.dx_turn.specs.Tracking.{cases_before}
use Rattle.dx_engine.specs.Standing.{StandingParts, whole_state, AreStanding}
use Rattle.dx_engine.proofs.Placing.{state_with}

pub somewhere : (r : Rules) (p : StandingParts) → AreStanding r p
    → IsLawfulSomewhere (whole_state p)
somewhere r p h = record { rules = r; lawful = h.lawful }

pub short_cases : (r : Rules) (p : StandingParts) (ts : List Tracked) → ts ≡ p.cases
    → AreStanding r p → All IsShortCase (cases_before ts)
short_cases r p ts same h =
    subst (λ (us : List Tracked). All IsShortCase (cases_before us)) (sym same)
    (cases_short_in (whole_state p) (cases_before p.cases) refl (somewhere r p h))

-- these are its parts, to be saved
pub record ArePartsToSave (p : StandingParts) (q : Parts) : Type 0 where
  pub conf : q.conf ≡ p.conf
  pub time : q.time ≡ p.time
  pub next : q.next ≡ p.next
  pub cases : q.cases.now ≡ map open_of (cases_before p.cases)
  pub solved : q.solved.now ≡ p.solved
  pub engines : q.engines.now ≡ p.engines

pub saved_state : (p : StandingParts) (q : Parts) → ArePartsToSave p q
    → parts_state q ≡ whole_state p
unfolding state_with
saved_state p q h =
    λ i. state_with (h.conf i) (h.time i) (h.next i) (h.cases i) (h.solved i) (h.engines i)

-- bytes that spell no lawful state save none
pub no_save : (r : Rules) (bytes : List ℕ) → SpellsNone r bytes
    → IsNoSave (diagnoser_meaning r) bytes
no_save r bytes none (Diagnosing s) h e = none s h e
no_save r bytes none (Counting cs) h e = false≢true h
no_save r bytes none (Foreign bs) h e = false≢true h
