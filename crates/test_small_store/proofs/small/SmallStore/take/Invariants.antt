-- The hands stay at their cursors from one report to the next.
use Rattle.test_small_store.specs.Small.{HasHandsAtCursors}
use Rattle.test_small_store.proofs.small.SmallStore.take.Given as goal

abbrev pub invariant-reports : goal.invariant-reports
invariant-reports l = HasHandsAtCursors l.small
