use Rattle.dx_step.proofs.Module.{cases_wait}
use Rattle.dx_step.proofs.laws.open_cases_wait.Goals as goal

pub returns : goal.returns
returns c = cases_wait
