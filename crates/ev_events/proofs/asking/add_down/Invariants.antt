-- What is bound so far with what the binding gives to the names that are left is all.
use Rattle.std.proofs.Common.{◌≡◌, ◌++◌, drop}
use Rattle.ev_events.specs.Asking.{names_down}
use Rattle.ev_events.proofs.asking.add_down.Given as goal

abbrev pub invariant-names : goal.invariant-names
invariant-names l =
    l.found.items ++ names_down (drop l.at l.names) (drop l.at l.binding)
    ≡ l.initial.found.items ++ names_down l.names l.binding
