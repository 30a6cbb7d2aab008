-- The instances so far are those of the first guards that are broken.
use Rattle.std.proofs.Common.{◌≡◌, filter, map, take}
use Rattle.ev_guards.specs.Guards.{guard_instance, is_broken}
use Rattle.ev_guards.proofs.guards.broken_among.Given as goal

abbrev pub invariant-loop-guard : goal.invariant-loop-guard
invariant-loop-guard l = l.found.items
    ≡ map guard_instance (filter (is_broken l.topo l.path l.props)
    (take l.guard-index l.guards))
