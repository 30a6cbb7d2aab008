use Rattle.std.proofs.Common.{not, ℕ, ap, sym, ◌∙◌}
use Rattle.ev_incidence.specs.Sets.{is_member}
use Rattle.dx_sets.proofs.Beginning.{left_here, left_past}
use Rattle.dx_explain.specs.Explaining.{may_stay}
use Rattle.dx_explain.proofs.solver.withhold.Goals as goal
use Rattle.dx_explain.proofs.solver.withhold.Goals.{then-not-may_stay, else-not-may_stay}

pub loop-node-preserved : goal.loop-node-preserved
loop-node-preserved c =
    let p = λ (e : ℕ). not (may_stay c.args.nodes.now c.args.root (is_member c.args.allowed.now)
    e) in
    elim c.if-not-may_stay.branch [
      | then-not-may_stay w ↦ rw (w.sets-is, w.remove.ensures) (left_here p c.loop-node.node
          c.args.sets.now c.loop-node.sets c.loop-node.invariant
          (ap not (sym c.may_stay.ensures ∙ w.if-not-may_stay.true)))
      | else-not-may_stay w ↦ rw w.sets-is (left_past p c.loop-node.node
          c.args.sets.now c.loop-node.sets c.loop-node.invariant
          (ap not (sym c.may_stay.ensures ∙ w.if-not-may_stay.false)))
    ]
