use Rattle.std.proofs.Common.{◌<◌, ◌∙◌, ap, subst, arith, length}
use Rattle.std.proofs.Math.ListN.{length-set}
use Rattle.std.proofs.lemmas.List.Elements.{AllWithin-more_set}
use Rattle.dx_turn.specs.declared.tracked.Tracked.{Tracked}
use Rattle.dx_turn.specs.Tracking.{opens_of, IsTrackedAt}
use Rattle.dx_turn.specs.Settling.{HasSettled}
use Rattle.dx_turn.proofs.Tracking.{kept_set}
use Rattle.dx_turn.proofs.Passing.{settled_step, rest_step}
use Rattle.dx_turn.proofs.settling.settle_all.Goals as goal

pub loop-at-preserved : goal.loop-at-preserved
loop-at-preserved c =
    let d = c.args.ground.now in
    let all = c.args.cases.now.items in
    let ts = c.loop-at.cases.items in
    let at = c.loop-at.at in
    let e = c.index_mut.result.now in
    let t = c.settle_tracked.new.tracked in
    let low : at < length all = omega arith in
    let many = c.loop-at.invariant.many in
    let lower : at < length ts = omega arith in
    record {
      settled = settled_step d all ts at e t c.args.told.now c.loop-at.told
          c.settle_tracked.new.told low lower (c.loop-at.invariant.rest at e (omega arith))
          c.loop-at.invariant.settled
          (subst (λ (x : Tracked). HasSettled d (opens_of x) (opens_of t) c.loop-at.told
          c.settle_tracked.new.told) c.index_mut.ensures.value
          c.in_ok-settle_tracked.ensures.ok);
      kept = kept_set ts at e t lower (c.settle_tracked.ensures.kept
          ∙ ap (λ (x : Tracked). x.kept) c.index_mut.ensures.value) ∙ c.loop-at.invariant.kept;
      many = rw length-set c.loop-at.invariant.many;
      rest = rest_step all ts at t c.loop-at.invariant.rest;
      current = AllWithin-more_set ts at t lower (IsTrackedAt d.graph.now d.time)
          c.loop-at.invariant.current c.in_ok-settle_tracked.ensures.current;
    }

pub returns-in_err-settle_tracked-clause-kept : goal.returns-in_err-settle_tracked-clause-kept
returns-in_err-settle_tracked-clause-kept c =
    let ts = c.loop-at.cases.items in
    let at = c.loop-at.at in
    let many = c.loop-at.invariant.many in
    let lower : at < length ts = omega arith in
    kept_set ts at c.index_mut.result.now c.settle_tracked.new.tracked lower
    (c.settle_tracked.ensures.kept ∙ ap (λ (x : Tracked). x.kept) c.index_mut.ensures.value)
    ∙ c.loop-at.invariant.kept
