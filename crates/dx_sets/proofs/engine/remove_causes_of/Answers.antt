use Rattle.std.proofs.Common.{arith}
use Rattle.dx_sets.proofs.Losing.{left_none, left_more}
use Rattle.dx_sets.proofs.engine.remove_causes_of.Goals as goal

pub loop-cause-init : goal.loop-cause-init
loop-cause-init g c =
    record { left = left_none c.causes-cause-items.result.now c.args.sets.now; cost = omega arith }

pub loop-cause-preserved : goal.loop-cause-preserved
loop-cause-preserved g c = record {
  left = rw c.remove.ensures
      (left_more c.causes-cause-items.result.now c.loop-cause.cause-index c.args.sets.now
      c.loop-cause.sets (omega arith) c.loop-cause.invariant.left);
  cost = omega (arith, c.tick.ensures, c.loop-cause.invariant.cost);
}
