-- The bindings so far with those that are left are all.
use Rattle.std.proofs.Common.{◌≡◌, ◌++◌, drop, map}
use Rattle.ev_events.specs.Turned.{instances_at}
use Rattle.ev_events.proofs.turned.turned_back.Given as goal

abbrev pub invariant-loop-binding : goal.invariant-loop-binding
invariant-loop-binding l =
    l.found.items ++ map (instances_at l.places) (drop l.binding-index l.bindings)
    ≡ map (instances_at l.places) l.bindings
