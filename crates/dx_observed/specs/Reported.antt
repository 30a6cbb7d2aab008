-- What is reported along entries, and what a case is said to have observed.
use Rattle.std.specs.Prelude.{◌≡◌, ℕ, ◌+◌, ◌≤◌, ◌==◌, ◌&&◌, ◌||◌, Bool, nat_le, List, [], ◌∷◌}
use Rattle.std.specs.Prelude.{◌++◌, map, if◌then◌else◌}
use Rattle.std.specs.List.{list_any}
use Rattle.fm_name.specs.Events.{event_eq}
use Rattle.fm_name.specs.declared.events.EventName.{EventName}
use Rattle.fm_entry.specs.Entries.{moment_of}
use Rattle.fm_entry.specs.declared.entry.Entry.{Entry}
use Rattle.fm_entry.specs.declared.entry.Entry.TheVariants.{Report}
use Rattle.fm_entry.specs.declared.list_event.ListEvent.{ListEvent}
use Rattle.fm_entry.specs.declared.spoken.Spoken.{Spoken}
use Rattle.fm_core.specs.Meaning.{OpenCase, Diagnosis}
use Rattle.ev_graph.specs.Lawful.{GraphValue}
use Rattle.dx_state.specs.Configured.{Rules}
use Rattle.dx_step.specs.Said.{event_names}
use Rattle.dx_step.specs.Turns.{graph_of, begin_at, settle_all}
use Rattle.dx_step.specs.Reports.{declares}
use Rattle.dx_step.specs.Step.{act, state_after}

-- an event that is reported at the entry of a number
pub record Reported : Type 0 where
  pub number : ℕ
  pub name : EventName

-- a report, and the number of the case that it joined
pub record JoinedReport : Type 0 where
  pub case : ℕ
  pub report : Reported

-- these events, each reported at the entry of a number
abbrev pub at_number : ℕ → List EventName → List Reported
at_number n names = map (λ x. record { number = n; name = x }) names

-- the event that an entry reports, where the graph declares its class
abbrev pub own_reports : GraphValue → Entry → List EventName
own_reports g (Report class path moment payload) =
    if declares g class then record { class = class; path = path } ∷ [] else []
own_reports g _ = []

-- the nodes that are reported by the engines which fire at an entry, in the order in which they
-- fire
abbrev pub fired_at : Rules → Diagnosis → ℕ → Entry → List ℕ
fired_at r s n e = (act r n e (settle_all r (begin_at (moment_of e) s))).fired

-- the node is the report of an engine of the graph
abbrev pub is_trip : GraphValue → ℕ → Bool
is_trip g node = list_any (λ x. x.trip == node) g.engines

-- what is reported at an entry: its own event, and what the engines report that fire at it
abbrev pub reported_at : Rules → Diagnosis → ℕ → Entry → List Reported
reported_at r s n e =
    at_number n
    (own_reports (graph_of r s) e ++ event_names (graph_of r s) (fired_at r s n e))

-- what is reported along entries, whose numbers count from n
abbrev pub reported_along : Rules → Diagnosis → ℕ → List Entry → List Reported
reported_along r s n [] = []
reported_along r s n (e ∷ es) =
    reported_at r s n e ++ reported_along r (state_after r s n e) (n + 1) es

-- the event is one of these
abbrev pub has_event : List EventName → EventName → Bool
has_event names x = list_any (λ y. event_eq y x) names

-- a report of the event joined the case of this number, at an entry of the number m or below it
abbrev pub has_joined : List JoinedReport → ℕ → ℕ → EventName → Bool
has_joined js m k x =
    list_any (λ j. (j.case == k) && (nat_le j.report.number m && event_eq j.report.name x)) js

-- in the state the case had observed the event: the open case of this number, or the solved one, by
-- its last word
abbrev pub had_observed : Rules → Diagnosis → ℕ → EventName → Bool
had_observed r s k x =
    list_any (λ c. (c.number == k) && has_event (event_names (graph_of r s) c.observed) x)
    s.open_cases
    || list_any (λ w. (w.case.case == k) && has_event w.observed x) s.solved

-- From the entry of the number n on, these events are just those that the case had observed at
-- first, and those of which a report joined it since.
abbrev pub AreJust : (ℕ → EventName → Bool) → List JoinedReport → ℕ → ℕ → List EventName → Type 0
AreJust had js n k names =
    (m : ℕ) → n ≤ m → (x : EventName) → has_event names x ≡ (had k x || has_joined js m k x)

-- one of these cases has the number
abbrev pub has_open : List OpenCase → ℕ → Bool
has_open cs k = list_any (λ c. c.number == k) cs

-- one of these words is on the case of the number
abbrev pub has_word : List ListEvent → ℕ → Bool
has_word ws k = list_any (λ w. w.case.case == k) ws

-- a word of one of these records is
abbrev pub has_said : List Spoken → ℕ → Bool
has_said records k = list_any (λ x. has_word x.events k) records
