-- The reports of a graph by their names.
use Rattle.std.specs.Prelude.{◌≡◌, ◌<◌, ◌&&◌, ℕ, Bool, true, false, List, Option, Some, None}
use Rattle.std.specs.Prelude.{nat_eq}
use Rattle.std.specs.Prelude.{slice_get, if◌then◌else◌}
use Rattle.std.specs.Cmp.Lexicographic.{pointwise}
use Rattle.std.specs.Map.{lookup}
use Rattle.fm_name.specs.Events.{event_eq}
use Rattle.fm_name.specs.declared.events.EventName.{EventName}
use Rattle.ev_graph.specs.Kinds.{is_report_kind}
use Rattle.ev_graph.specs.Lawful.{GraphValue}
use Rattle.ev_graph.specs.declared.nodes.Node.{Node}
use Rattle.dx_step.specs.Reports.{report_named}

-- a path and a class
abbrev pub ReportKey : Type 0
ReportKey = List ℕ × List ℕ

-- numbers at paths and classes
abbrev pub IndexValue : Type 0
IndexValue = List (ReportKey × ℕ)

-- the event of a path and a class
abbrev pub event_by : ReportKey → EventName
event_by k = record { class = k.1; path = k.0 }

-- whether a path and a class are those of the event
abbrev pub is_keyed : EventName → ReportKey → Bool
is_keyed name k = pointwise nat_eq name.path k.0 && pointwise nat_eq name.class k.1

-- the number that stands at the name
abbrev pub indexed_number : IndexValue → EventName → Option ℕ
indexed_number index name = lookup (is_keyed name) index

-- whether it is a report of the name
abbrev pub is_report_of : EventName → Option Node → Bool
is_report_of name None = false
is_report_of name (Some node) = is_report_kind node.kind && event_eq node.name name

-- at each name stands the number of the graph's report of that name, if there is one
abbrev pub IndexesReports : GraphValue → IndexValue → Type 0
IndexesReports g index = (name : EventName) → indexed_number index name ≡ report_named g name

-- the number of a node is put at its name, if it is a report
abbrev pub PutsReport : Node → ℕ → IndexValue → IndexValue → Type 0
PutsReport node number old new = (name : EventName) → indexed_number new name
    ≡ (if is_report_of name (Some node) then Some number else indexed_number old name)

-- the numbers that stand at names are those of their reports, and each of the first nodes that is a
-- report has one
pub record IndexesFirst (nodes : List Node) (n : ℕ) (index : IndexValue) : Type 0 where
  pub found : (name : EventName) (at : ℕ) → indexed_number index name ≡ Some at
      → is_report_of name (slice_get nodes at) ≡ true
  pub all : (name : EventName) (at : ℕ) → at < n → is_report_of name (slice_get nodes at) ≡ true
      → indexed_number index name ≡ None → ⊥
