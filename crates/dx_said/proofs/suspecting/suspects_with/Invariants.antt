use Rattle.std.proofs.Common.{◌≡◌, ◌++◌, drop}
use Rattle.dx_step.specs.Said.{nodes_of, suspects_with}
use Rattle.dx_said.proofs.suspecting.suspects_with.Given as goal

abbrev pub invariant-loop-at : goal.invariant-loop-at
invariant-loop-at l =
    l.suspects.items
    ++ suspects_with (nodes_of l.graph (drop l.at l.numbers)) (drop l.at l.certainties)
    ≡ suspects_with (nodes_of l.graph l.numbers) l.certainties
