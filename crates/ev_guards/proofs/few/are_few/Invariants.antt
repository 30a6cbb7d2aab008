-- The guards so far are few, and with those of the rest all guards.
use Rattle.std.proofs.Common.{◌≡◌, ◌+◌, ◌<◌, ◌^◌, length}
use Rattle.ev_guards.specs.Guards.{guard_count}
use Rattle.ev_guards.proofs.few.are_few.Given as goal

abbrev pub invariant-loop-rest : goal.invariant-loop-rest
invariant-loop-rest l =
    (l.count < 2 ^ 32) × (l.count + guard_count l.rest ≡ guard_count l.nodes)

abbrev pub decreases-loop-rest : goal.decreases-loop-rest
decreases-loop-rest l = length l.rest
