use Rattle.dx_explain.proofs.Shrinking.{greatest_agree}
use Rattle.dx_explain.proofs.laws.same_greatest.Goals as goal

pub returns : goal.returns
returns c = greatest_agree
