use Rattle.std.proofs.Common.{◌≡◌, take, filter_map}
use Rattle.ev_check.specs.CheckedFile.{event_spec}
use Rattle.ev_check.proofs.build.event_specs.Given as goal

abbrev pub invariant-loop-statement : goal.invariant-loop-statement
invariant-loop-statement l =
    l.specs.items ≡ filter_map (event_spec l.engines) (take l.statement-index l.statements)
