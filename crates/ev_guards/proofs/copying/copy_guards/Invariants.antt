use Rattle.std.proofs.Common.{◌≡◌, map, take}
use Rattle.ev_guards.specs.Watched.{view_guard}
use Rattle.ev_guards.proofs.copying.copy_guards.Given as goal

abbrev pub invariant-loop-guard : goal.invariant-loop-guard
invariant-loop-guard l =
    map view_guard l.copies.items ≡ map view_guard (take l.guard-index l.guards)
