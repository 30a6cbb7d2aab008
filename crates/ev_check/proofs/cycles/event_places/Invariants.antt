use Rattle.std.proofs.Common.{◌≡◌, take, filter_map}
use Rattle.ev_check.specs.Faults.{event_place}
use Rattle.ev_check.proofs.cycles.event_places.Given as goal

abbrev pub invariant-loop-statement : goal.invariant-loop-statement
invariant-loop-statement l =
    l.places.items ≡ filter_map event_place (take l.statement-index l.statements)
