-- Where a node is of a kind.
use Rattle.std.proofs.Common.{◌≡◌, ◌<◌, ℕ, zero, suc, Bool, true, List, [], ◌∷◌, length, slice_get}
use Rattle.std.proofs.Common.{arith}
use Rattle.std.proofs.lemmas.Bool.{false≢true}
use Rattle.ev_graph.specs.Kinds.{has_kind}
use Rattle.ev_graph.specs.declared.nodes.Node.{Node}
use Rattle.ev_graph.specs.declared.nodes.NodeKind.{NodeKind}

-- a node of a kind is one of the nodes
pub kind_below : (p : NodeKind → Bool) (nodes : List Node) (e : ℕ)
    → has_kind p (slice_get nodes e) ≡ true → e < length nodes
kind_below p [] e h = absurd (false≢true h)
kind_below p (n ∷ ns) zero h = omega arith
kind_below p (n ∷ ns) (suc e) h = omega (arith, kind_below p ns e h)
