-- What the kinds of nodes say.
use Rattle.std.specs.Prelude.{◌^◌, ℕ, Bool, true, false, nat_lt, nat_le, Option, Some, None, List}
use Rattle.std.specs.Prelude.{slice_get}
use Rattle.ev_incidence.specs.Sets.{NodeSet}
use Rattle.ev_graph.specs.declared.nodes.Node.{Node}
use Rattle.ev_graph.specs.declared.nodes.NodeKind.{NodeKind}
use Rattle.ev_graph.specs.declared.nodes.NodeKind.TheVariants.{Fault, Defect, Upset, Inner, Report}

abbrev pub is_root_kind : NodeKind → Bool
is_root_kind Inner = false
is_root_kind (Report within) = false
is_root_kind _ = true

abbrev pub is_report_kind : NodeKind → Bool
is_report_kind (Report within) = true
is_report_kind _ = false

abbrev pub is_upset_kind : NodeKind → Bool
is_upset_kind (Upset engine) = true
is_upset_kind _ = false

-- the values are inside their limits
abbrev pub has_limits : NodeKind → Bool
has_limits (Fault fit retire) = nat_lt 0 fit
has_limits (Defect fit retire) = nat_lt 0 fit
has_limits (Report within) = nat_le within (2 ^ 50)
has_limits _ = true

-- the engine is one of so many
abbrev pub is_engine_below : ℕ → Option ℕ → Bool
is_engine_below count None = true
is_engine_below count (Some engine) = nat_lt engine count

abbrev pub has_engine_below : ℕ → NodeKind → Bool
has_engine_below count (Upset engine) = is_engine_below count engine
has_engine_below count _ = true

-- the nodes of a kind, by number
abbrev pub has_kind : (NodeKind → Bool) → Option Node → Bool
has_kind p None = false
has_kind p (Some node) = p node.kind

abbrev pub is_root_node : List Node → NodeSet
is_root_node nodes e = has_kind is_root_kind (slice_get nodes e)

abbrev pub is_report_node : List Node → NodeSet
is_report_node nodes e = has_kind is_report_kind (slice_get nodes e)

abbrev pub is_upset_node : List Node → NodeSet
is_upset_node nodes e = has_kind is_upset_kind (slice_get nodes e)
