use Rattle.std.proofs.Common.{◌≡◌, ◌+◌, drop}
use Rattle.fm_core.specs.Counts.{cases_of}
use Rattle.fm_core.proofs.saving.cases.Given as goal

abbrev pub invariant-loop-x : goal.invariant-loop-x
invariant-loop-x l = l.cases + cases_of (drop l.x-index l.counts) ≡ cases_of l.counts
