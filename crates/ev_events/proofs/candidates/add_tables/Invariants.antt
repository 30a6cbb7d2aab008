-- There is a table of each pattern so far.
use Rattle.std.proofs.Common.{◌++◌, List, map, take}
use Rattle.ev_tree.specs.Pattern.{Pattern, view_pattern}
use Rattle.ev_events.specs.Sheets.{AreTablesOf}
use Rattle.ev_events.proofs.candidates.add_tables.Given as goal

abbrev pub invariant-loop-pattern : goal.invariant-loop-pattern
invariant-loop-pattern l =
    (qs : List Pattern) → AreTablesOf l.topo l.names qs l.initial.tables.items
    → AreTablesOf l.topo l.names (qs ++ map view_pattern (take l.pattern-index l.patterns))
    l.tables.items
