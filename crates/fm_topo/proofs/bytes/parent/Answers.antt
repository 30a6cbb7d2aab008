use Rattle.std.proofs.Common.{arith}
use Rattle.fm_topo.proofs.Pieces.{parent_init}
use Rattle.fm_topo.proofs.bytes.parent.Goals as goal

pub loop-at-init : goal.loop-at-init
loop-at-init c = record { within = omega arith; same = parent_init c.args.path.now }
