-- The step of a diagnosis module at an entry.
use Rattle.std.specs.Prelude.{ℕ, ◌&&◌, Bool, nat_lt, List, [], map, if◌then◌else◌}
use Rattle.fm_entry.specs.declared.suspect.Mark.TheVariants.{Repaired as RepairedMark, Acquitted}
use Rattle.fm_entry.specs.declared.suspect.Mark.TheVariants.{Replaced as ReplacedMark}
use Rattle.fm_entry.specs.declared.entry.Entry.{Entry}
use Rattle.fm_entry.specs.declared.entry.Entry.TheVariants.{Report, Tick, Repaired, Replaced}
use Rattle.fm_entry.specs.declared.entry.Entry.TheVariants.{Acquit, Reload}
use Rattle.fm_entry.specs.declared.list_event.ListEvent.{ListEvent}
use Rattle.fm_entry.specs.Entries.{moment_of}
use Rattle.fm_core.specs.Meaning.{Diagnosis}
use Rattle.dx_state.specs.Configured.{Rules, known_of, configuration_at}
use Rattle.dx_step.specs.Turns.{Turn, graph_of, begin_at, settle_all, decide_all}
use Rattle.dx_step.specs.Reports.{declares, report, trips}
use Rattle.dx_step.specs.Repairs.{is_at, is_at_or_under, is_of_case, mark}

-- the entry acts
abbrev pub act : Rules → ℕ → Entry → Turn → Turn
act r number (Report class path moment payload) t =
    if declares (graph_of r t.state) class
    then report r number (record { class = class; path = path }) payload t
    else t
act r number (Tick moment) t = t
act r number (Repaired path moment) t = mark (is_at path) RepairedMark t
act r number (Replaced path moment) t = mark (is_at_or_under path) ReplacedMark t
act r number (Acquit case moment) t = mark (is_of_case case) Acquitted t
act r number (Reload conf moment) t = t

-- the configuration of a number comes into force: its engines have noted nothing
abbrev pub configure : Rules → ℕ → Turn → Turn
configure r conf t = record t {
  state = record t.state {
    conf = conf;
    engines =
        map (λ e. []) (configuration_at r conf).graph.engines;
  };
}

-- a reload acts where it names a known configuration above the one in force
abbrev pub is_above : Rules → Diagnosis → ℕ → Bool
is_above r s conf = nat_lt s.conf conf && nat_lt conf (known_of r.configurations)

-- the last part: where a reload acts, each open case is decided, and the configuration is the named
-- one
abbrev pub reload : Rules → Entry → Turn → Turn
reload r (Reload conf moment) t =
    if is_above r t.state conf then configure r conf (decide_all r t) else t
reload r _ t = t

-- The turn of an entry: the time moves; each open case that waits for nothing any more is decided;
-- the entry acts; what the engines report that fired acts; a new configuration comes into force.
unfoldable pub turn : Rules → Diagnosis → ℕ → Entry → Turn
turn r s number e =
    reload r e (trips r number (act r number e (settle_all r (begin_at (moment_of e) s))))

-- the state after the entry, and the words said at it
abbrev pub state_after : Rules → Diagnosis → ℕ → Entry → Diagnosis
state_after r s number e = (turn r s number e).state

abbrev pub words_at : Rules → Diagnosis → ℕ → Entry → List ListEvent
words_at r s number e = (turn r s number e).words
