use Rattle.std.proofs.Common.{ap, arith}
use Rattle.dx_sets.specs.Sets.{SetsValue}
use Rattle.dx_sets.specs.Engine.{cost}
use Rattle.dx_live.proofs.Shrinks.{steady_removed, cost_removed}
use Rattle.dx_live.proofs.live.lose_member.Goals as goal

pub settle-requires : goal.settle-requires
settle-requires g c = rw c.remove.ensures (steady_removed c.args.table.now
    (g.C.CutTest.is_cut c.args.cuts.now) c.args.here c.args.at c.args.sets.now c.requires)

pub returns-clause-cost : goal.returns-clause-cost
returns-clause-cost g c =
    omega (
      arith,
      c.settle.ensures.cost,
      ap (λ (s : SetsValue). cost c.args.table.now s) c.remove.ensures,
      cost_removed c.args.table.now c.args.sets.now c.args.at,
    )
