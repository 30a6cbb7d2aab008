use Rattle.std.proofs.Common.{◌≡◌, ◌++◌, drop, map}
use Rattle.dx_step.specs.Said.{nodes_of}
use Rattle.dx_said.proofs.naming.names.Given as goal

abbrev pub invariant-loop-number : goal.invariant-loop-number
invariant-loop-number l =
    l.names.items ++ map (λ n. n.name) (nodes_of l.graph (drop l.number-index l.numbers))
    ≡ map (λ n. n.name) (nodes_of l.graph l.numbers)
