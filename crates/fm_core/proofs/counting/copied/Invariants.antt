use Rattle.std.proofs.Common.{◌≡◌, take}
use Rattle.fm_core.proofs.counting.copied.Given as goal

abbrev pub invariant-loop-x : goal.invariant-loop-x
invariant-loop-x l = l.copied.items ≡ take l.x-index l.counts
