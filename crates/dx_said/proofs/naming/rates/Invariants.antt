use Rattle.std.proofs.Common.{◌≡◌, ◌++◌, drop, map}
use Rattle.dx_step.specs.Said.{nodes_of, failures_of}
use Rattle.dx_said.proofs.naming.rates.Given as goal

abbrev pub invariant-loop-number : goal.invariant-loop-number
invariant-loop-number l =
    l.rates.items
    ++ map (λ n. failures_of n.kind) (nodes_of l.graph (drop l.number-index l.numbers))
    ≡ map (λ n. failures_of n.kind) (nodes_of l.graph l.numbers)
