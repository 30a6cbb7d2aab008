use Rattle.dx_explain.proofs.Shrinking.{when_decided}
use Rattle.dx_explain.proofs.laws.decided.Goals as goal

pub returns : goal.returns
returns c = when_decided
