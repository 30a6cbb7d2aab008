use Rattle.std.proofs.Common.{◌≡◌, ◌++◌, drop, map}
use Rattle.dx_step.specs.Said.{nodes_of, suspect_at}
use Rattle.dx_said.proofs.suspecting.upsets.Given as goal

abbrev pub invariant-loop-number : goal.invariant-loop-number
invariant-loop-number l =
    l.suspects.items
    ++ map (λ n. suspect_at n 0) (nodes_of l.graph (drop l.number-index l.numbers))
    ≡ map (λ n. suspect_at n 0) (nodes_of l.graph l.numbers)
