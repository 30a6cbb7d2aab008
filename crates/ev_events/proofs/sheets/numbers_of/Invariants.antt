-- The numbers so far with those of the columns that are left are all.
use Rattle.std.proofs.Common.{◌≡◌, ◌++◌, drop, map}
use Rattle.ev_events.proofs.Columns.{number_in}
use Rattle.ev_events.proofs.sheets.numbers_of.Given as goal

abbrev pub invariant-loop-column : goal.invariant-loop-column
invariant-loop-column l =
    l.numbers.items ++ map number_in (drop l.column-index l.columns) ≡ map number_in l.columns
