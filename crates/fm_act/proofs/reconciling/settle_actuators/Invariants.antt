use Rattle.std.proofs.Common.{map}
use Rattle.fm_act.proofs.Walked.{HasGone, state_of}
use Rattle.fm_act.proofs.reconciling.settle_actuators.Given as goal

abbrev pub invariant-acts : goal.invariant-acts
invariant-acts g l =
    let st = state_of g.A.ActCalls.kind_text g.A.ActCalls.held g.A.ActCalls.act_failures in
    HasGone l.wanted l.failed l.at (map st l.initial.acts) (map st l.acts)
