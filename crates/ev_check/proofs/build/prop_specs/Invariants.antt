use Rattle.std.proofs.Common.{◌≡◌, take, filter_map, map}
use Rattle.ev_check.specs.CheckedFile.{linking, view_prop}
use Rattle.ev_check.proofs.build.prop_specs.Given as goal

abbrev pub invariant-loop-statement : goal.invariant-loop-statement
invariant-loop-statement l =
    map view_prop l.specs.items ≡ filter_map linking (take l.statement-index l.statements)
