-- The set has the classes of the reports among the nodes so far.
use Rattle.std.proofs.Common.{◌≡◌, ◌&&◌, List, ℕ, bytes_eq, take}
use Rattle.std.specs.List.{list_any}
use Rattle.ev_graph.specs.Kinds.{is_report_kind}
use Rattle.dx_rules.specs.Classes.{is_class_among}
use Rattle.dx_rules.proofs.classes.classes_of.Given as goal

abbrev pub invariant-nodes : goal.invariant-nodes
invariant-nodes l = (class : List ℕ) → is_class_among l.set.keys class
    ≡ list_any (λ node. is_report_kind node.kind && bytes_eq node.name.class class)
    (take l.node-index l.nodes)
