use Rattle.fm_name.proofs.Alike.{IsAlikeUpTo}
use Rattle.fm_name.proofs.tail_order.alike_len.Given as goal

abbrev pub invariant-bytes : goal.invariant-bytes
invariant-bytes l = IsAlikeUpTo l.ours l.theirs l.at l.alike
