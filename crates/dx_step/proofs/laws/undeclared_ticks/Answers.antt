use Rattle.dx_step.proofs.Module.{turn_ticks}
use Rattle.dx_step.proofs.laws.undeclared_ticks.Goals as goal

pub returns : goal.returns
returns c = turn_ticks
