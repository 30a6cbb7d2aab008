use Rattle.dx_step.proofs.Module.{conf_steps}
use Rattle.dx_step.proofs.laws.configurations_step.Goals as goal

pub returns : goal.returns
returns c = conf_steps
