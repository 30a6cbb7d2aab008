-- The roots that explain what was reported of a case.
use Rattle.std.specs.Prelude.{ℕ, ◌&&◌, ◌||◌, Bool, false, List, Option, Some, None, slice_get}
use Rattle.fm_name.specs.declared.events.EventName.{EventName}
use Rattle.ev_incidence.specs.Sets.{NodeSet}
use Rattle.ev_graph.specs.Kinds.{is_report_kind}
use Rattle.ev_graph.specs.Lawful.{GraphValue}
use Rattle.ev_graph.specs.declared.nodes.Node.{Node}
use Rattle.dx_explain.specs.Cases.{cuts_of}
use Rattle.dx_explain.specs.Laws.{Explains}
use Rattle.dx_step.specs.Exact.{Explaining}
use Rattle.dx_observed.specs.Reported.{JoinedReport, has_joined}

-- the node is of an event that the case of the number k had observed at first, or of which a report
-- joined it since, at an entry of the number m or below it
abbrev pub is_known : (ℕ → EventName → Bool) → List JoinedReport → ℕ → ℕ → Option Node → Bool
is_known had js m k None = false
is_known had js m k (Some node) =
    is_report_kind node.kind && (had k node.name || has_joined js m k node.name)

-- the nodes of all reports of the case
abbrev pub known_nodes : (ℕ → EventName → Bool) → List JoinedReport → ℕ → ℕ → GraphValue → NodeSet
known_nodes had js m k g e = is_known had js m k (slice_get g.nodes e)

-- a root explains a case where some story of it has exactly the reports of the case as its reports
abbrev pub ByReports : (ℕ → EventName → Bool) → List JoinedReport → ℕ → Explaining
ByReports had js m g c e = Explains g (cuts_of c) e (known_nodes had js m c.number g)
