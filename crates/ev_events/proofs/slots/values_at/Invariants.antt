-- The instances so far with those of the columns that are left are all.
use Rattle.std.proofs.Common.{◌≡◌, ◌++◌, drop}
use Rattle.ev_events.specs.Slots.{values_at}
use Rattle.ev_events.proofs.slots.values_at.Given as goal

abbrev pub invariant-loop-column : goal.invariant-loop-column
invariant-loop-column l = l.values.items ++ values_at (drop l.column-index l.columns) l.instances
    ≡ values_at l.columns l.instances
