-- Graphs by the kinds of their nodes and the numbers of causes and effects.
use Rattle.std.specs.Prelude.{◌≡◌, List, [], map}
use Rattle.ev_graph.specs.Lawful.{GraphValue}
use Rattle.ev_graph.specs.declared.nodes.Node.{Node}
use Rattle.ev_graph.specs.declared.nodes.NodeKind.{NodeKind}
use Rattle.ev_graph.specs.declared.instances.Instance.{Instance}
use Rattle.test_small_graph.specs.declared.wires.Wire.{Wire}

-- the kinds of nodes
abbrev pub kinds_of : List Node → List NodeKind
kinds_of nodes = map (λ node. node.kind) nodes

-- the instance of these numbers
abbrev pub wired : Wire → Instance
wired w = record { causes = w.causes.now; effects = w.effects.now; n = w.n; k = w.k }

-- the graph has nodes of these kinds, these instances, and no engine
pub record IsSmallGraph (kinds : List NodeKind) (made : List Instance) (g : GraphValue)
    : Type 0 where
  pub nodes : kinds_of g.nodes ≡ kinds
  pub engines : g.engines ≡ []
  pub instances : g.instances ≡ made
