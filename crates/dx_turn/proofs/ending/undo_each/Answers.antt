use Rattle.std.proofs.Common.{◌<◌, ◌∙◌, ap, arith, length}
use Rattle.std.proofs.Math.ListN.{length-set}
use Rattle.dx_turn.specs.Standing.{before_turn}
use Rattle.dx_turn.proofs.Passing.{rest_step}
use Rattle.dx_turn.proofs.Ends.{changed_step}
use Rattle.dx_turn.proofs.ending.undo_each.Goals as goal

pub loop-at-preserved : goal.loop-at-preserved
loop-at-preserved c =
    let all = c.args.cases.now.items in
    let ts = c.loop-at.cases.items in
    let at = c.loop-at.at in
    let e = c.index_mut.result.now in
    let t = c.undo_turn.new.self in
    let low : at < length all = omega arith in
    let many = c.loop-at.invariant.many in
    let lower : at < length ts = omega arith in
    record {
      done = changed_step before_turn all ts at e t low lower
          (c.undo_turn.ensures ∙ ap before_turn c.index_mut.ensures.value)
          (c.loop-at.invariant.rest at e (omega arith)) c.loop-at.invariant.done;
      many = rw length-set c.loop-at.invariant.many;
      rest = rest_step all ts at t c.loop-at.invariant.rest;
    }
