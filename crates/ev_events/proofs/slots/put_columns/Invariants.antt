-- The columns so far with those that are left are all.
use Rattle.std.proofs.Common.{◌≡◌, ◌++◌, length}
use Rattle.ev_events.specs.Slots.{with_column}
use Rattle.ev_events.proofs.slots.put_columns.Given as goal

abbrev pub invariant-columns : goal.invariant-columns
invariant-columns l = l.out.items ++ with_column l.rest l.column
    ≡ l.initial.out.items ++ with_column l.columns l.column

abbrev pub decreases-columns : goal.decreases-columns
decreases-columns l = length l.rest
