-- What a diagnosis module does, as functions of states of any module; it leaves those of others.
use Rattle.std.specs.Prelude.{ℕ, Bool, false, List, [], Option, Some, None}
use Rattle.fm_entry.specs.declared.entry.Entry.{Entry}
use Rattle.fm_entry.specs.declared.list_event.ListEvent.{ListEvent}
use Rattle.fm_core.specs.Meaning.{State, Diagnosing}
use Rattle.dx_state.specs.Configured.{Rules}
use Rattle.dx_state.specs.StateBytes.{diagnosis_bytes}
use Rattle.dx_step.specs.Turns.{graph_of}
use Rattle.dx_step.specs.Reports.{declares}
use Rattle.dx_step.specs.Step.{state_after, words_at}
use Rattle.dx_step.specs.Lawful.{is_lawful}

abbrev pub diagnoser_conf : State → Option ℕ
diagnoser_conf (Diagnosing s) = Some s.conf
diagnoser_conf _ = None

-- it subscribes to the classes that the graph in force declares
abbrev pub diagnoser_takes : Rules → State → List ℕ → Bool
diagnoser_takes r (Diagnosing s) class = declares (graph_of r s) class
diagnoser_takes r _ class = false

abbrev pub diagnoser_after : Rules → State → ℕ → Entry → State
diagnoser_after r (Diagnosing s) n e = Diagnosing (state_after r s n e)
diagnoser_after r t n e = t

abbrev pub diagnoser_says : Rules → State → ℕ → Entry → List ListEvent
diagnoser_says r (Diagnosing s) n e = words_at r s n e
diagnoser_says r t n e = []

abbrev pub diagnoser_holds : Rules → State → Bool
diagnoser_holds r (Diagnosing s) = is_lawful r s
diagnoser_holds r _ = false

abbrev pub diagnoser_saved : State → List ℕ
diagnoser_saved (Diagnosing s) = diagnosis_bytes s
diagnoser_saved _ = []
