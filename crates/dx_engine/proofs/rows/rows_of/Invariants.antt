use Rattle.std.proofs.Common.{◌≡◌, take}
use Rattle.dx_turn.specs.Tracking.{cases_before}
use Rattle.dx_engine.specs.Rows.{rows_of}
use Rattle.dx_engine.proofs.rows.rows_of.Given as goal

abbrev pub invariant-loop-tracked : goal.invariant-loop-tracked
invariant-loop-tracked l = l.rows.items ≡ rows_of l.own
    (cases_before (take l.tracked-index l.cases))
