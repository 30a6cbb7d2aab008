-- The instances so far with those at the places that are left are all.
use Rattle.std.proofs.Common.{◌≡◌, ◌++◌, drop}
use Rattle.ev_events.specs.Turned.{instances_at}
use Rattle.ev_events.proofs.turned.instances_at.Given as goal

abbrev pub invariant-loop-place : goal.invariant-loop-place
invariant-loop-place l = l.found.items ++ instances_at (drop l.place-index l.places) l.binding
    ≡ instances_at l.places l.binding
