use Rattle.std.proofs.Common.{◌≡◌, take, filter_map}
use Rattle.ev_check.specs.CheckedFile.{serd_spec}
use Rattle.ev_check.proofs.build.serd_specs.Given as goal

abbrev pub invariant-loop-statement : goal.invariant-loop-statement
invariant-loop-statement l =
    l.specs.items ≡ filter_map (serd_spec l.events) (take l.statement-index l.statements)
