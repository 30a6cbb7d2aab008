use Rattle.std.proofs.Common.{◌≡◌, take}
use Rattle.dx_step.specs.Reports.{join_each}
use Rattle.dx_turn.specs.Grounds.{rules_on}
use Rattle.dx_turn.specs.Tracking.{cases_before}
use Rattle.dx_turn.specs.Joining.{HasGone}
use Rattle.dx_turn.proofs.joining.join_trips.Given as goal

abbrev pub invariant-loop-node : goal.invariant-loop-node
invariant-loop-node l = record {
  kept : cases_before l.work.cases.items ≡ cases_before l.initial.work.cases.items;
  gone : HasGone l.ground (join_each (rules_on l.ground) l.entry (take l.node-index l.nodes))
      l.initial.work l.work;
}
