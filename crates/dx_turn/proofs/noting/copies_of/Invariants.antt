use Rattle.std.proofs.Common.{◌≡◌, take}
use Rattle.dx_turn.proofs.noting.copies_of.Given as goal

abbrev pub invariant-loop-engine : goal.invariant-loop-engine
invariant-loop-engine l = l.copies.items ≡ take l.engine-index l.engines
