-- The names so far with those that are left are all names.
use Rattle.std.proofs.Common.{◌≡◌, drop}
use Rattle.ev_events.specs.Turned.{with_names}
use Rattle.ev_events.proofs.names.add_names.Given as goal

abbrev pub invariant-loop-known : goal.invariant-loop-known
invariant-loop-known l =
    with_names l.names (drop l.known-index l.others) ≡ with_names l.initial.names l.others
