use Rattle.fm_core.specs.Seen.{seen, OnlyWorked}
use Rattle.fm_core.proofs.Draining.{ComeOnTo}
use Rattle.fm_core.proofs.cores.Core.work_each.Given as goal

abbrev pub invariant-modules : goal.invariant-modules
invariant-modules g l =
    OnlyWorked (seen g.M.Module l.initial.self) (seen g.M.Module l.self)
    × ComeOnTo (seen g.M.Module l.initial.self) (seen g.M.Module l.self) l.at
