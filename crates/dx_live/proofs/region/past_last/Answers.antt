use Rattle.std.proofs.Common.{arith}
use Rattle.dx_live.proofs.Locals.{last_most}
use Rattle.dx_live.proofs.region.past_last.Goals as goal

pub returns : goal.returns
returns c = λ i l. omega (arith, l, last_most c.args.nodes.now i c.requires l)
