use Rattle.std.proofs.Common.{length}
use Rattle.fm_name.proofs.tail_order.+compare_from.Given as goal

abbrev pub decreases-compare_from : goal.decreases-compare_from
decreases-compare_from l = length l.ours.now
