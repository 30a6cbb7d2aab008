use Rattle.std.proofs.Common.{◌≡◌, ◌+◌, drop, sum}
use Rattle.dx_said.proofs.certainty.sum_of.Given as goal

abbrev pub invariant-loop-share : goal.invariant-loop-share
invariant-loop-share l = l.total + sum (drop l.share-index l.shares) ≡ sum l.shares
