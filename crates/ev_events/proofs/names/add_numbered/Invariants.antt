-- The names so far with those of the numbers that are left are all names.
use Rattle.std.proofs.Common.{◌≡◌, drop}
use Rattle.ev_events.specs.Turned.{with_numbered}
use Rattle.ev_events.proofs.names.add_numbered.Given as goal

abbrev pub invariant-loop-number : goal.invariant-loop-number
invariant-loop-number l =
    with_numbered l.names l.others (drop l.number-index l.numbers)
    ≡ with_numbered l.initial.names l.others l.numbers
