use Rattle.std.proofs.Common.{◌≡◌, ◌≤◌, length}
use Rattle.test_language.proofs.arrows.drawn.Given as goal

abbrev pub invariant-steps : goal.invariant-steps
invariant-steps l =
    record { nodes : l.arrows.nodes ≡ l.nodes; few : length l.arrows.causes ≤ l.step-index }
