-- The links so far, and those of the rest, are all.
use Rattle.std.proofs.Common.{◌≡◌, ◌++◌, drop}
use Rattle.dx_rules.specs.Payloads.{links_to_node}
use Rattle.dx_rules.proofs.breaking.links_to_node.Given as goal

abbrev pub invariant-loop-instance : goal.invariant-loop-instance
invariant-loop-instance l =
    l.links.items ++ links_to_node l.node (drop l.instance-index l.instances)
    ≡ links_to_node l.node l.instances
