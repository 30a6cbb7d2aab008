use Rattle.std.proofs.Common.{arith, List, ℕ, ap, get_or}
use Rattle.dx_sets.proofs.Losing.{last_support}
use Rattle.dx_sets.proofs.engine.lose_giver.Goals as goal

pub lose_support-requires : goal.lose_support-requires
lose_support-requires c =
    rw c.leave_if_last.ensures
    (omega (
      arith,
      ap (λ (xs : List ℕ). get_or xs c.args.node 0)
          (last_support c.args.sets.now c.args.node c.args.root),
    ))
