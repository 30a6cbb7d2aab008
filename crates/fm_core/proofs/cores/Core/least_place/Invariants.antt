use Rattle.fm_core.specs.Seen.{seen, FirstPassed}
use Rattle.fm_core.proofs.cores.Core.least_place.Given as goal

abbrev pub invariant-modules : goal.invariant-modules
invariant-modules g l = FirstPassed (seen g.M.Module l.self) l.at l.least
