-- The hands that came back were drained, and the others stand behind them as they were.
use Rattle.std.proofs.Common.{◌≡◌, ◌+◌, ◌≤◌, ◌++◌, length}
use Rattle.std.specs.Prelude.{vec_capacity}
use Rattle.std.specs.Vec.Iter.{into_iter_items, into_iter_len}
use Rattle.fm_drain.proofs.DrainLaws.{Drains}
use Rattle.fm_drain.proofs.draining.drain.Given as goal

abbrev pub invariant-hands : goal.invariant-hands
invariant-hands g l =
    Drains g.D.Disk g.M.Module l.initial.store l.store l.fn.hands.items (length l.back.items)
    (l.back.items ++ into_iter_items l.hand-iterator) l.done
    × (into_iter_len l.hand-iterator ≡ length (into_iter_items l.hand-iterator))
    × (length l.back.items + into_iter_len l.hand-iterator ≤ vec_capacity l.back)
