use Rattle.dx_step.proofs.Agreeing.{do_alike}
use Rattle.dx_step.proofs.laws.longer_lists_do_alike.Goals as goal

pub returns : goal.returns
returns c = do_alike
