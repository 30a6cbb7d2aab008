use Rattle.std.proofs.Common.{◌≡◌, ℕ, ◌≤◌, [], length, take, get_or}
use Rattle.dx_step.specs.Turns.{decide_each}
use Rattle.dx_turn.specs.declared.tracked.Tracked.{Tracked}
use Rattle.dx_turn.specs.Grounds.{rules_on}
use Rattle.dx_turn.specs.Turning.{HasTurned}
use Rattle.dx_turn.specs.Tracking.{opens_in, tracked_cases, cases_before}
use Rattle.dx_turn.proofs.reloading.decide_all.Given as goal

abbrev pub invariant-loop-at : goal.invariant-loop-at
invariant-loop-at l = record {
  turned : HasTurned l.ground
      (decide_each (rules_on l.ground) (opens_in (take l.at l.initial.cases.items)))
      l.initial.told l.told;
  kept : cases_before l.cases.items ≡ cases_before l.initial.cases.items;
  many : length l.cases.items ≡ length l.initial.cases.items;
  rest : (k : ℕ) (e : Tracked) → l.at ≤ k
      → get_or l.cases.items k e ≡ get_or l.initial.cases.items k e;
  none : tracked_cases (take l.at l.cases.items) ≡ [];
}
