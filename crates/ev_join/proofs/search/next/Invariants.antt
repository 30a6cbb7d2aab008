use Rattle.std.proofs.Common.{◌++◌, ◌∷◌, []}
use Rattle.ev_join.specs.Search.{steps_left}
use Rattle.ev_join.proofs.Turns.{Turning}
use Rattle.ev_join.proofs.search.next.Given as goal

abbrev pub invariant-turns : goal.invariant-turns
invariant-turns l =
    Turning l.tables l.count (l.initial.front.items ++ l.value ∷ []) l.front.items l.from

abbrev pub decreases-turns : goal.decreases-turns
decreases-turns l = steps_left l.count (l.front.items ++ l.from ∷ [])
