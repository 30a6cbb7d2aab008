use Rattle.ev_ways.specs.Walked.{IsWalked}
use Rattle.ev_ways.proofs.walk.walk.Given as goal

abbrev pub invariant-loop-step : goal.invariant-loop-step
invariant-loop-step l =
    IsWalked l.links.causes.now l.links.effects.now l.node l.distance l.fn.first l.members.items
    l.step

abbrev pub decreases-loop-step : goal.decreases-loop-step
decreases-loop-step l = l.step.distance
