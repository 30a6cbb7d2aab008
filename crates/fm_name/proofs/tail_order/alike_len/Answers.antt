use Rattle.std.proofs.Common.{arith}
use Rattle.fm_name.proofs.Alike.{more_alike}
use Rattle.fm_name.proofs.tail_order.alike_len.Goals as goal

pub bytes-preserved : goal.bytes-preserved
bytes-preserved c =
    more_alike c.args.ours.now c.args.theirs.now c.bytes.at c.bytes.alike c.alike_with-alike.result
    c.bytes-test.true (omega arith) (omega arith) c.alike_with-alike.ensures c.requires.ours
    c.requires.theirs c.bytes.invariant
