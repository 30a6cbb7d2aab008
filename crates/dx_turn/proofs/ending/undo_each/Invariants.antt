use Rattle.std.proofs.Common.{◌≡◌, ℕ, ◌≤◌, length, map, take, get_or}
use Rattle.dx_turn.specs.declared.tracked.Tracked.{Tracked}
use Rattle.dx_turn.specs.Standing.{before_turn}
use Rattle.dx_turn.proofs.ending.undo_each.Given as goal

abbrev pub invariant-loop-at : goal.invariant-loop-at
invariant-loop-at l = record {
  done : take l.at l.cases.items ≡ map before_turn (take l.at l.initial.cases.items);
  many : length l.cases.items ≡ length l.initial.cases.items;
  rest : (k : ℕ) (e : Tracked) → l.at ≤ k
      → get_or l.cases.items k e ≡ get_or l.initial.cases.items k e;
}
