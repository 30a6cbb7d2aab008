-- The two lists so far are those of what was taken.
use Rattle.std.proofs.Common.{◌≡◌}
use Rattle.std.specs.Map.{keys_of, values_of}
use Rattle.ev_events.proofs.placed.places_from.Given as goal

abbrev pub invariant-loop-name : goal.invariant-loop-name
invariant-loop-name l = (l.names.items ≡ keys_of l.yielded) × (l.numbers.items
    ≡ values_of l.yielded)
