use Rattle.dx_sets.specs.Engine.{HaveLeftBelow, is_ungiven}
use Rattle.dx_sets.proofs.start.remove_ungiven.Given as goal

abbrev pub invariant-loop-node : goal.invariant-loop-node
invariant-loop-node g l =
    HaveLeftBelow (λ e. is_ungiven l.initial.sets e l.root) l.node l.initial.sets l.sets
