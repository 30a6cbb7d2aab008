use Rattle.std.proofs.Common.{◌≡◌, ◌++◌, map}
use Rattle.std.specs.Vec.Iter.{into_iter_items}
use Rattle.dx_turn.specs.Standing.{still_of}
use Rattle.dx_engine.proofs.loading.tracked.Given as goal

abbrev pub invariant-loop-case : goal.invariant-loop-case
invariant-loop-case l =
    l.tracked.items ++ map still_of (into_iter_items l.case-iterator)
    ≡ map still_of (into_iter_items l.initial.case-iterator)
