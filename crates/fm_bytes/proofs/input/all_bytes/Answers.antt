-- A byte is a number of eight bits.
use Rattle.std.proofs.Common.{arith}
use Rattle.fm_bytes.proofs.input.all_bytes.Goals as goal

pub returns : goal.returns
returns c = λ i. omega (arith, c.type_inv.bytes i)
