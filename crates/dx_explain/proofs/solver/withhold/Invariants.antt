use Rattle.std.proofs.Common.{not}
use Rattle.ev_incidence.specs.Sets.{is_member}
use Rattle.dx_sets.specs.Engine.{HaveLeftBelow}
use Rattle.dx_explain.specs.Explaining.{may_stay}
use Rattle.dx_explain.proofs.solver.withhold.Given as goal

abbrev pub invariant-loop-node : goal.invariant-loop-node
invariant-loop-node l =
    HaveLeftBelow (λ e. not (may_stay l.nodes l.root (is_member l.allowed) e)) l.node
    l.initial.sets l.sets
