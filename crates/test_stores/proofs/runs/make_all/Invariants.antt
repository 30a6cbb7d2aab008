-- The hands stay at their cursors from one step to the next.
use Rattle.test_small_store.specs.Small.{HasHandsAtCursors}
use Rattle.test_stores.proofs.runs.make_all.Given as goal

abbrev pub invariant-steps : goal.invariant-steps
invariant-steps l = HasHandsAtCursors l.small
