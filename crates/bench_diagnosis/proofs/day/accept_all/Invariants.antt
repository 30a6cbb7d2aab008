-- The core stays in order from line to line.
use Rattle.fm_core.specs.Seen.{seen}
use Rattle.bench_diagnosis.specs.Twos.{IsTwo}
use Rattle.bench_diagnosis.proofs.day.accept_all.Given as goal

abbrev pub invariant-lines : goal.invariant-lines
invariant-lines g l = IsTwo (seen g.M.Module l.core)
