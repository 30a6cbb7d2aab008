use Rattle.std.proofs.Common.{arith, subst, sym, map, ◌+◌, ◌∙◌, slice_set, get_or}
use Rattle.fm_act.specs.HeldPaths.{IsActCallFault}
use Rattle.fm_act.proofs.Walked.{turn_done, turn_failed, turn_ended, none_failed, one_failed}
use Rattle.fm_act.proofs.Walked.{kept_up, HasGone, state_of, refused_at}
use Rattle.fm_act.proofs.reconciling.settle_actuators.Goals as goal
use Rattle.fm_act.proofs.reconciling.settle_actuators.Goals.{in-Ok, in-Err-Failed}

pub returns-in-Err-NoMemory-clause-kept : goal.returns-in-Err-NoMemory-clause-kept
returns-in-Err-NoMemory-clause-kept g c =
    let st = state_of g.A.ActCalls.kind_text g.A.ActCalls.held g.A.ActCalls.act_failures in
    turn_ended st c.args.wanted.now c.acts.failed c.acts.at (map st c.args.acts.now) c.acts.acts
    c.index-acts-at.result c.settle_actuator.new.act c.acts.invariant
    (omega (arith, c.acts-test.true, c.acts.auto.acts))
    (record {
      kind = c.settle_actuator.ensures.kind;
      later = c.settle_actuator.ensures.cause.later;
    })

pub acts-preserved : goal.acts-preserved
acts-preserved g c =
    let st = state_of g.A.ActCalls.kind_text g.A.ActCalls.held g.A.ActCalls.act_failures in
    let olds = map st c.args.acts.now in
    let news = map st (slice_set c.acts.acts c.acts.at c.settle_actuator.new.act) in
    elim c.match-settle_actuator.branch [
      | in-Ok w ↦ subst (λ f. HasGone c.args.wanted.now f (c.acts.at + 1) olds news)
          (sym w.failed-is)
          (turn_done st c.args.wanted.now c.acts.failed c.acts.at olds c.acts.acts
          c.index-acts-at.result c.settle_actuator.new.act c.acts.invariant
          (omega (arith, c.acts-test.true, c.acts.auto.acts))
          (record {
            kind = c.settle_actuator.ensures.kind;
            later = c.settle_actuator.ensures.cause.later;
          })
          (record { quiet = w.in-Ok.ensures.cause.quiet; holds = w.in-Ok.ensures.ok }))
      | in-Err-Failed w ↦ subst (λ f. HasGone c.args.wanted.now f (c.acts.at + 1) olds news)
          (sym (w.failed-is ∙ w.or-failed.ensures))
          (turn_failed st c.args.wanted.now c.acts.failed c.acts.at olds c.acts.acts
          c.index-acts-at.result c.settle_actuator.new.act c.acts.invariant
          (omega (arith, c.acts-test.true, c.acts.auto.acts))
          (record {
            kind = c.settle_actuator.ensures.kind;
            later = c.settle_actuator.ensures.cause.later;
          })
          (subst (λ e. IsActCallFault (g.A.ActCalls.act_failures
          (get_or c.acts.acts c.acts.at c.index-acts-at.result))
          (g.A.ActCalls.act_failures c.settle_actuator.new.act) e)
          w.in-Err-Failed.field-0-is w.in-Err-Failed.ensures.cause.failed))
    ]

pub returns-in-None-clause-done : goal.returns-in-None-clause-done
returns-in-None-clause-done g c =
    let st = state_of g.A.ActCalls.kind_text g.A.ActCalls.held g.A.ActCalls.act_failures in
    let olds = map st c.args.acts.now in
    none_failed st c.args.wanted.now c.acts.at olds c.acts.acts
    (subst (λ f. HasGone c.args.wanted.now f c.acts.at olds (map st c.acts.acts))
    c.in-None.is c.acts.invariant)
    (omega (arith, c.acts-test.false, c.acts.auto.acts))

pub returns-in-None-clause-kept : goal.returns-in-None-clause-kept
returns-in-None-clause-kept g c =
    let st = state_of g.A.ActCalls.kind_text g.A.ActCalls.held g.A.ActCalls.act_failures in
    kept_up c.acts.at (map st c.args.acts.now) (map st c.acts.acts) c.acts.invariant.kept

pub returns-in-Some-clause-done : goal.returns-in-Some-clause-done
returns-in-Some-clause-done g c =
    let st = state_of g.A.ActCalls.kind_text g.A.ActCalls.held g.A.ActCalls.act_failures in
    let olds = map st c.args.acts.now in
    refused_at c.args.wanted.now c.in-Some.at c.act_refusal.result olds (map st c.acts.acts)
    c.act_refusal.ensures
    (one_failed st c.args.wanted.now c.in-Some.at c.acts.at olds c.acts.acts
    (subst (λ f. HasGone c.args.wanted.now f c.acts.at olds (map st c.acts.acts))
    c.in-Some.is c.acts.invariant)
    (omega (arith, c.acts-test.false, c.acts.auto.acts)))

pub returns-in-Some-clause-kept : goal.returns-in-Some-clause-kept
returns-in-Some-clause-kept g c =
    let st = state_of g.A.ActCalls.kind_text g.A.ActCalls.held g.A.ActCalls.act_failures in
    kept_up c.acts.at (map st c.args.acts.now) (map st c.acts.acts) c.acts.invariant.kept
