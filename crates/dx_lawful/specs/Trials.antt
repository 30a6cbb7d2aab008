-- What is left to be tried of a state that has a spelling.
use Rattle.std.specs.Prelude.{ℕ, ◌^◌, ◌&&◌, Bool, nat_lt, nat_le, List, length, map}
use Rattle.std.specs.List.{list_all}
use Rattle.fm_entry.specs.declared.broken.Broken.{Broken}
use Rattle.fm_entry.specs.declared.list_event.ListEvent.{ListEvent}
use Rattle.fm_core.specs.Meaning.{OpenCase, Diagnosis}
use Rattle.ev_incidence.specs.Sets.{ascends, is_member}
use Rattle.ev_graph.specs.Kinds.{is_report_node}
use Rattle.ev_graph.specs.Lawful.{GraphValue}
use Rattle.dx_state.specs.LawfulState.{events_ascend, suspect_name, has_marks, are_engines}
use Rattle.dx_state.specs.LawfulState.{open_numbers, solved_numbers, are_apart}

-- which links are guarded, as a test of instance and effect
abbrev pub GuardTest : Type 0
GuardTest = ℕ → ℕ → Bool

-- a guarded link to a report that was observed
abbrev pub is_guarded_link : GuardTest → List ℕ → Broken → Bool
is_guarded_link guarded observed l = guarded l.instance l.effect && is_member observed l.effect

-- a case whose broken links are in order is a lawful one, where these links are guarded
abbrev pub could_be_open : GraphValue → GuardTest → ℕ → ℕ → OpenCase → Bool
could_be_open g guarded time next c =
    ascends c.observed
    && (nat_lt c.number next
    && (nat_le c.opened time
    && (nat_lt 0 (length c.observed)
    && (list_all (is_report_node g.nodes) c.observed
    && (nat_le (length c.observed) (length c.entries)
    && (list_all (λ n. nat_lt n (2 ^ 46)) c.entries
    && list_all (is_guarded_link guarded c.observed) c.broken))))))

-- a word of the module is the last one of a solved case
abbrev pub could_be_last : ℕ → ListEvent → Bool
could_be_last next w =
    nat_lt w.case.case next
    && (nat_lt 0 (length w.observed)
    && (events_ascend w.observed
    && (events_ascend (map suspect_name w.suspects) && has_marks w.kind w.suspects)))

-- the parts of a state, each in itself
abbrev pub have_ranges : GraphValue → GuardTest → Diagnosis → Bool
have_ranges g guarded s =
    nat_lt s.time (2 ^ 62)
    && (nat_le s.next (2 ^ 63)
    && (list_all (could_be_open g guarded s.time s.next) s.open_cases
    && (list_all (could_be_last s.next) s.solved && are_engines s.time g.engines s.engines)))

-- cases in order of number, of which none is both open and solved
abbrev pub are_numbered : List OpenCase → List ListEvent → Bool
are_numbered cs ws =
    ascends (solved_numbers ws)
    && (ascends (open_numbers cs) && are_apart (open_numbers cs) (solved_numbers ws))
