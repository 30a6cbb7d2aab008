-- How a report acts: it joins a case, or opens one; and what the engines that fired report.
use Rattle.std.specs.Prelude.{ℕ, ◌+◌, ◌^◌, ◌&&◌, Bool, true, false, nat_lt, bytes_eq}
use Rattle.std.specs.Prelude.{List, [], ◌∷◌, map, if◌then◌else◌, Option, Some, None}
use Rattle.std.specs.Prelude.{slice_get, slice_set, position, remove}
use Rattle.std.specs.List.{list_any}
use Rattle.fm_nv.specs.Data.{Pairs, no_pairs}
use Rattle.fm_name.specs.Events.{event_eq}
use Rattle.fm_name.specs.declared.events.EventName.{EventName}
use Rattle.fm_entry.specs.declared.list_event.ListKind.TheVariants.{Undiagnosable}
use Rattle.fm_entry.specs.declared.list_event.ListEvent.{ListEvent}
use Rattle.fm_core.specs.Meaning.{OpenCase, Diagnosis}
use Rattle.ev_graph.specs.Kinds.{is_report_kind}
use Rattle.ev_graph.specs.Lawful.{GraphValue}
use Rattle.ev_graph.specs.declared.instances.Link.{Link}
use Rattle.dx_explain.specs.Cases.{takes_report, waits, case_opened, case_joined}
use Rattle.dx_state.specs.Configured.{Rules, Configuration}
use Rattle.dx_step.specs.Turns.{Turn, configuration_of, graph_of, turn_cases, with_cases, say}
use Rattle.dx_step.specs.Turns.{decide, settle}

-- some report of the graph has the class
unfoldable pub declares : GraphValue → List ℕ → Bool
declares g class =
    list_any (λ node. is_report_kind node.kind && bytes_eq node.name.class class) g.nodes

-- the number of the report of this name
abbrev pub report_named : GraphValue → EventName → Option ℕ
report_named g name =
    position (λ node. is_report_kind node.kind && event_eq node.name name) g.nodes

-- the links of a report that its payload breaks
abbrev pub links_broken : Configuration → ℕ → Pairs → List Link
links_broken x node payload =
    map (λ i. record { instance = i; effect = node }) (x.guarding.breaks node payload)

-- there is a number for one more case
abbrev pub may_open : Diagnosis → Bool
may_open s = nat_lt s.next (2 ^ 63)

-- a case more was opened
abbrev pub with_next : Turn → Turn
with_next t = record t { state = record t.state { next = t.state.next + 1 } }

-- a report of the node opens a case
abbrev pub opens_case : Rules → Bool → ℕ → ℕ → List Link → Turn → Turn
opens_case r notes entry node links t =
    if may_open t.state
    then settle r notes (case_opened t.state.next node t.state.time entry links) (with_next t)
    else t

-- the case at a place, as it is with a report more, stays open there while it waits, and is decided
-- where it does not
abbrev pub settle_at : Rules → Bool → ℕ → OpenCase → Turn → Turn
settle_at r notes at c t =
    if waits (graph_of r t.state) t.state.time c
    then with_cases (slice_set (turn_cases t) at c) t
    else decide r notes c (with_cases (remove (turn_cases t) at) t)

abbrev pub join_case : Rules → Bool → ℕ → ℕ → List Link → ℕ → Option OpenCase → Turn → Turn
join_case r notes entry node links at (Some c) t =
    settle_at r notes at (case_joined node entry links c) t
join_case r notes entry node links at None t = t

abbrev pub join_or_open : Rules → Bool → ℕ → ℕ → List Link → Option ℕ → Turn → Turn
join_or_open r notes entry node links (Some at) t =
    join_case r notes entry node links at (slice_get (turn_cases t) at) t
join_or_open r notes entry node links None t = opens_case r notes entry node links t

-- the first open case that has the node or waits for it
abbrev pub place_of_report : Rules → ℕ → Turn → Option ℕ
place_of_report r node t =
    position (takes_report (graph_of r t.state) t.state.time node) (turn_cases t)

-- a report of the node with a payload joins that case, or opens one
unfoldable pub join : Rules → Bool → ℕ → ℕ → Pairs → Turn → Turn
join r notes entry node payload t =
    join_or_open r notes entry node (links_broken (configuration_of r t.state) node payload)
    (place_of_report r node t) t

-- the word on a case of an event that the graph does not have
abbrev pub unknown_word : ℕ → Diagnosis → EventName → ListEvent
unknown_word own s name = record {
  kind = Undiagnosable;
  case = record { «module» = own; case = s.next };
  moment = s.time;
  conf = s.conf;
  observed = name ∷ [];
  suspects = [];
  broken = [];
}

-- a report of an event that the graph does not have opens a case that nothing explains
abbrev pub open_unknown : ℕ → EventName → Turn → Turn
open_unknown own name t =
    if may_open t.state then with_next (say (unknown_word own t.state name) t) else t

abbrev pub join_if_known : Rules → ℕ → EventName → Pairs → Option ℕ → Turn → Turn
join_if_known r entry name payload (Some node) t = join r true entry node payload t
join_if_known r entry name payload None t = open_unknown r.own name t

-- a report of a class that the graph declares acts
unfoldable pub report : Rules → ℕ → EventName → Pairs → Turn → Turn
report r entry name payload t =
    join_if_known r entry name payload (report_named (graph_of r t.state) name) t

-- each of some nodes is reported, with no payload, and no engine notes anything
abbrev pub join_each : Rules → ℕ → List ℕ → Turn → Turn
join_each r entry [] t = t
join_each r entry (node ∷ nodes) t = join_each r entry nodes (join r false entry node no_pairs t)

-- what the engines that fired report, in the order in which they fired
abbrev pub trips : Rules → ℕ → Turn → Turn
trips r entry t = join_each r entry t.fired (record t { fired = [] })
