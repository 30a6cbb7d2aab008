use Rattle.std.proofs.Common.{◌≡◌, ◌+◌, take}
use Rattle.dx_sets.specs.Engine.{HaveLeft}
use Rattle.dx_sets.proofs.engine.remove_causes_of.Given as goal

abbrev pub invariant-loop-cause : goal.invariant-loop-cause
invariant-loop-cause g l = record {
  left : HaveLeft (take l.cause-index l.cause-items) l.initial.sets l.sets;
  cost : l.steps ≡ l.initial.steps + l.cause-index;
}
