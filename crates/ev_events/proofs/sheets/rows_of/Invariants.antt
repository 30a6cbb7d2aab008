-- The rows so far with those of the numbers that are left are all.
use Rattle.std.proofs.Common.{◌≡◌, ◌++◌, drop, filter_map}
use Rattle.ev_events.specs.Sheets.{path_row}
use Rattle.ev_events.proofs.sheets.rows_of.Given as goal

abbrev pub invariant-numbers : goal.invariant-numbers
invariant-numbers l =
    l.rows.items ++ filter_map (path_row l.topo l.layout.slots.items l.layout.columns.items l.parts)
    (drop l.at-index l.numbers)
    ≡ filter_map (path_row l.topo l.layout.slots.items l.layout.columns.items l.parts) l.numbers
