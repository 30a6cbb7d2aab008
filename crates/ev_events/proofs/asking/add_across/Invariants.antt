-- The names so far with those of the parts that are left are all.
use Rattle.std.proofs.Common.{◌≡◌, ◌++◌, length}
use Rattle.ev_events.specs.Asking.{names_across}
use Rattle.ev_events.proofs.asking.add_across.Given as goal

abbrev pub invariant-parts : goal.invariant-parts
invariant-parts l = l.found.items ++ names_across l.rest l.left
    ≡ l.initial.found.items ++ names_across l.parts l.instances

abbrev pub decreases-parts : goal.decreases-parts
decreases-parts l = length l.rest
