-- The numbers so far with those of the names that are left are all.
use Rattle.std.proofs.Common.{◌≡◌, ◌++◌, drop}
use Rattle.ev_events.specs.Turned.{places_among}
use Rattle.ev_events.proofs.turned.places_among.Given as goal

abbrev pub invariant-loop-known : goal.invariant-loop-known
invariant-loop-known l = l.places.items ++ places_among l.others (drop l.known-index l.known-items)
    ≡ places_among l.others l.names
