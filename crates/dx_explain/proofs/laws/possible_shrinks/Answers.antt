use Rattle.dx_explain.proofs.Shrinking.{shrinks}
use Rattle.dx_explain.proofs.laws.possible_shrinks.Goals as goal

pub returns : goal.returns
returns c = shrinks
