use Rattle.dx_step.proofs.Rows.{rows}
use Rattle.dx_step.proofs.laws.small_module_says.Goals as goal

pub returns : goal.returns
returns c = rows
