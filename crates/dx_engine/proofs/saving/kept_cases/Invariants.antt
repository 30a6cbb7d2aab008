use Rattle.std.proofs.Common.{◌≡◌, map, take}
use Rattle.dx_case.specs.Cases.{open_of}
use Rattle.dx_turn.specs.Tracking.{cases_before}
use Rattle.dx_engine.proofs.saving.kept_cases.Given as goal

abbrev pub invariant-loop-tracked : goal.invariant-loop-tracked
invariant-loop-tracked l =
    l.kept.items ≡ map open_of (cases_before (take l.tracked-index l.cases))
