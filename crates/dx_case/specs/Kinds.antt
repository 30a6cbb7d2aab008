-- Kinds of nodes that a case asks for.
use Rattle.std.specs.Prelude.{Bool}
use Rattle.ev_graph.specs.Kinds.{is_root_kind, is_report_kind, is_upset_kind}
use Rattle.ev_graph.specs.declared.nodes.NodeKind.{NodeKind}
use Rattle.dx_explain.specs.Cases.{is_solving_kind}
use Rattle.dx_case.specs.declared.kinds.Asked.{Asked}
use Rattle.dx_case.specs.declared.kinds.Asked.TheVariants.{Roots, Reports, Solving, Upsets}

-- a kind is the one that is asked for
abbrev pub is_asked : Asked → NodeKind → Bool
is_asked Roots kind = is_root_kind kind
is_asked Reports kind = is_report_kind kind
is_asked Solving kind = is_solving_kind kind
is_asked Upsets kind = is_upset_kind kind
