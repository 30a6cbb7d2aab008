-- One entry's turn, and how cases are decided in it.
use Rattle.std.specs.Prelude.{ℕ, ◌++◌, Bool, true, false, List, [], ◌∷◌, if◌then◌else◌, max}
use Rattle.std.specs.Prelude.{Option, Some, slice_get, slice_set}
use Rattle.fm_entry.specs.declared.list_event.ListKind.TheVariants.{Suspect as SuspectKind}
use Rattle.fm_entry.specs.declared.list_event.ListKind.TheVariants.{Undiagnosable}
use Rattle.fm_entry.specs.declared.list_event.ListKind.TheVariants.{Upset as UpsetWord}
use Rattle.fm_entry.specs.declared.list_event.ListEvent.{ListEvent}
use Rattle.fm_core.specs.Meaning.{OpenCase, Diagnosis}
use Rattle.ev_graph.specs.Lawful.{GraphValue}
use Rattle.ev_graph.specs.declared.nodes.Node.{Node}
use Rattle.ev_graph.specs.declared.nodes.EngineSpec.{EngineSpec}
use Rattle.ev_graph.specs.declared.nodes.NodeKind.{NodeKind}
use Rattle.ev_graph.specs.declared.nodes.NodeKind.TheVariants.{Upset}
use Rattle.dx_serd.specs.Rates.{fires, kept_after}
use Rattle.dx_explain.specs.Cases.{Verdict, Solving, Upsetting, Unexplained, verdict_of, waits}
use Rattle.dx_state.specs.Configured.{Rules, Configuration, configuration_at}
use Rattle.dx_step.specs.Said.{nodes_of, suspects_of, upsets_named, word_on, with_last_word}

-- A turn as far as it has come: the state, the nodes that the engines which fired report, in the
-- order in which they fired, and the words said.
pub record Turn : Type 0 where
  pub state : Diagnosis
  pub fired : List ℕ
  pub words : List ListEvent

-- the configuration in force, and its graph
abbrev pub configuration_of : Rules → Diagnosis → Configuration
configuration_of r s = configuration_at r s.conf

abbrev pub graph_of : Rules → Diagnosis → GraphValue
graph_of r s = (configuration_of r s).graph

-- a turn begins with the greater of the module's time and the entry's moment
abbrev pub begin_at : ℕ → Diagnosis → Turn
begin_at moment s =
    record { state = record s { time = max s.time moment }; fired = []; words = [] }

-- the open cases of a turn
abbrev pub turn_cases : Turn → List OpenCase
turn_cases t = t.state.open_cases

abbrev pub with_cases : List OpenCase → Turn → Turn
with_cases cs t = record t { state = record t.state { open_cases = cs } }

-- the case stays open
abbrev pub keep : OpenCase → Turn → Turn
keep c t = with_cases (turn_cases t ++ c ∷ []) t

-- a word is said
abbrev pub say : ListEvent → Turn → Turn
say w t = record t { words = t.words ++ w ∷ [] }

-- an engine notes the time, and fires or not
abbrev pub noted_by : ℕ → EngineSpec → List ℕ → Turn → Turn
noted_by at e kept t =
    record t {
      state = record t.state {
        engines =
            slice_set t.state.engines at (kept_after e.n e.t kept t.state.time);
      };
      fired = if fires e.n e.t kept t.state.time then t.fired ++ e.trip ∷ [] else t.fired;
    }

abbrev pub noted_at : ℕ → Option EngineSpec → Option (List ℕ) → Turn → Turn
noted_at at (Some e) (Some kept) t = noted_by at e kept t
noted_at at _ _ t = t

-- the engine of an upset notes the time
abbrev pub note_upset : GraphValue → NodeKind → Turn → Turn
note_upset g (Upset (Some at)) t =
    noted_at at (slice_get g.engines at) (slice_get t.state.engines at) t
note_upset g _ t = t

-- the engine of each upset does
abbrev pub note_all : GraphValue → List Node → Turn → Turn
note_all g [] t = t
note_all g (node ∷ nodes) t = note_all g nodes (note_upset g node.kind t)

-- the case is solved: its word is said, and kept
abbrev pub solve : Rules → OpenCase → List Node → Turn → Turn
solve r c nodes t =
    let w = word_on r.own (graph_of r t.state) t.state SuspectKind c (suspects_of nodes) in
    say w (record t { state = record t.state { solved = with_last_word w t.state.solved } })

-- only upsets explain the case: their engines note the time, in a part of the step in which engines
-- note
abbrev pub upset : Rules → Bool → OpenCase → List Node → Turn → Turn
upset r notes c nodes t =
    let said = say (word_on r.own (graph_of r t.state) t.state UpsetWord c (upsets_named nodes)) t
    in
    if notes then note_all (graph_of r t.state) nodes said else said

-- nothing explains the case
abbrev pub give_up : Rules → OpenCase → Turn → Turn
give_up r c t = say (word_on r.own (graph_of r t.state) t.state Undiagnosable c []) t

abbrev pub decide_by : Rules → Bool → OpenCase → Verdict → Turn → Turn
decide_by r notes c (Solving fs) t = solve r c (nodes_of (graph_of r t.state) fs) t
decide_by r notes c (Upsetting us) t = upset r notes c (nodes_of (graph_of r t.state) us) t
decide_by r notes c Unexplained t = give_up r c t

-- the case is decided: it is open no more
unfoldable pub decide : Rules → Bool → OpenCase → Turn → Turn
decide r notes c t = decide_by r notes c (verdict_of (graph_of r t.state) c) t

-- the case stays open while it waits for a report, and is decided where it does not
unfoldable pub settle : Rules → Bool → OpenCase → Turn → Turn
settle r notes c t =
    if waits (graph_of r t.state) t.state.time c then keep c t else decide r notes c t

-- each of some cases, in order
abbrev pub settle_each : Rules → Bool → List OpenCase → Turn → Turn
settle_each r notes [] t = t
settle_each r notes (c ∷ cs) t = settle_each r notes cs (settle r notes c t)

-- each open case
abbrev pub settle_all : Rules → Turn → Turn
settle_all r t = settle_each r true (turn_cases t) (with_cases [] t)

-- each of some cases is decided, whatever it waits for, and no engine notes anything
abbrev pub decide_each : Rules → List OpenCase → Turn → Turn
decide_each r [] t = t
decide_each r (c ∷ cs) t = decide_each r cs (decide r false c t)

abbrev pub decide_all : Rules → Turn → Turn
decide_all r t = decide_each r (turn_cases t) (with_cases [] t)
