use Rattle.fm_core.specs.Seen.{seen, OnlyWorked, HavePassed}
use Rattle.fm_core.proofs.cores.Core.drain.Given as goal

abbrev pub invariant-turns : goal.invariant-turns
invariant-turns g l =
    OnlyWorked (seen g.M.Module l.initial.self) (seen g.M.Module l.self)
    × HavePassed (seen g.M.Module l.self) l._turn
