-- Reports by their names, and how they act.
use Rattle.std.specs.Prelude.{◌≡◌, ℕ, true, Option, Some, None, if◌then◌else◌}
use Rattle.fm_nv.specs.Data.{Pairs}
use Rattle.fm_name.specs.declared.events.EventName.{EventName}
use Rattle.ev_graph.specs.Kinds.{is_report_node}
use Rattle.ev_graph.specs.Lawful.{GraphValue}
use Rattle.dx_step.specs.Turns.{Turn}
use Rattle.dx_step.specs.Reports.{declares, report, open_unknown}
use Rattle.dx_turn.specs.declared.ground.Ground.{Ground}
use Rattle.dx_turn.specs.Grounds.{rules_on, own_of}

-- a node that was found is a report, and the graph declares its class
abbrev pub IsDeclared : GraphValue → EventName → Option ℕ → Type 0
IsDeclared g name None = Unit {0}
IsDeclared g name (Some node) = (is_report_node g.nodes node ≡ true)
    × (declares g name.class ≡ true)

-- a report of a class that the graph declares acts
abbrev pub reported_by : Ground → ℕ → EventName → Pairs → Turn → Turn
reported_by d entry name payload t =
    if declares d.graph.now name.class then report (rules_on d) entry name payload t else t

-- a report of an event that the graph does not have acts, where it declares its class
abbrev pub unknown_by : Ground → EventName → Turn → Turn
unknown_by d name t =
    if declares d.graph.now name.class then open_unknown (own_of d) name t else t
