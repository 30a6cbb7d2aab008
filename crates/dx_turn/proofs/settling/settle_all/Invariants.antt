use Rattle.std.proofs.Common.{◌≡◌, ℕ, ◌≤◌, length, take, get_or}
use Rattle.std.specs.List.{AllWithin}
use Rattle.dx_turn.specs.declared.tracked.Tracked.{Tracked}
use Rattle.dx_turn.specs.Tracking.{opens_in, cases_before, IsTrackedAt}
use Rattle.dx_turn.specs.Settling.{HasSettled}
use Rattle.dx_turn.proofs.settling.settle_all.Given as goal

abbrev pub invariant-loop-at : goal.invariant-loop-at
invariant-loop-at l = record {
  settled : HasSettled l.ground (opens_in (take l.at l.initial.cases.items))
      (opens_in (take l.at l.cases.items)) l.initial.told l.told;
  kept : cases_before l.cases.items ≡ cases_before l.initial.cases.items;
  many : length l.cases.items ≡ length l.initial.cases.items;
  rest : (k : ℕ) (e : Tracked) → l.at ≤ k
      → get_or l.cases.items k e ≡ get_or l.initial.cases.items k e;
  current : AllWithin (IsTrackedAt l.ground.graph.now l.ground.time) l.cases.items 0 l.at;
}
