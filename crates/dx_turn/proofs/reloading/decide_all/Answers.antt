use Rattle.std.proofs.Common.{◌<◌, ◌∙◌, ap, subst, arith, length}
use Rattle.std.proofs.Math.ListN.{length-set}
use Rattle.dx_step.specs.Turns.{decide_each}
use Rattle.dx_turn.specs.declared.tracked.Tracked.{Tracked}
use Rattle.dx_turn.specs.Grounds.{rules_on}
use Rattle.dx_turn.specs.Turning.{HasTurned}
use Rattle.dx_turn.specs.Tracking.{opens_of}
use Rattle.dx_turn.proofs.Tracking.{kept_set}
use Rattle.dx_turn.proofs.Passing.{rest_step}
use Rattle.dx_turn.proofs.Reloads.{decided_step, none_step}
use Rattle.dx_turn.proofs.reloading.decide_all.Goals as goal

pub loop-at-preserved : goal.loop-at-preserved
loop-at-preserved c =
    let d = c.args.ground.now in
    let all = c.args.cases.now.items in
    let ts = c.loop-at.cases.items in
    let at = c.loop-at.at in
    let e = c.index_mut.result.now in
    let t = c.decide_tracked.new.tracked in
    let low : at < length all = omega arith in
    let many = c.loop-at.invariant.many in
    let lower : at < length ts = omega arith in
    record {
      turned = decided_step d all ts at e c.args.told.now c.loop-at.told
          c.decide_tracked.new.told low (c.loop-at.invariant.rest at e (omega arith))
          c.loop-at.invariant.turned
          (subst (λ (x : Tracked). HasTurned d (decide_each (rules_on d) (opens_of x))
          c.loop-at.told c.decide_tracked.new.told) c.index_mut.ensures.value
          c.in_ok-decide_tracked.ensures.ok);
      kept = kept_set ts at e t lower (c.decide_tracked.ensures.kept
          ∙ ap (λ (x : Tracked). x.kept) c.index_mut.ensures.value) ∙ c.loop-at.invariant.kept;
      many = rw length-set c.loop-at.invariant.many;
      rest = rest_step all ts at t c.loop-at.invariant.rest;
      none = none_step ts at t lower c.loop-at.invariant.none c.in_ok-decide_tracked.ensures.none;
    }

pub returns-in_err-decide_tracked-clause-kept : goal.returns-in_err-decide_tracked-clause-kept
returns-in_err-decide_tracked-clause-kept c =
    let ts = c.loop-at.cases.items in
    let at = c.loop-at.at in
    let many = c.loop-at.invariant.many in
    let lower : at < length ts = omega arith in
    kept_set ts at c.index_mut.result.now c.decide_tracked.new.tracked lower
    (c.decide_tracked.ensures.kept ∙ ap (λ (x : Tracked). x.kept) c.index_mut.ensures.value)
    ∙ c.loop-at.invariant.kept
