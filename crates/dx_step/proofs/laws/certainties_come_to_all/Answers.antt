use Rattle.dx_step.proofs.Certain.{certain_all}
use Rattle.dx_step.proofs.laws.certainties_come_to_all.Goals as goal

pub returns : goal.returns
returns c = certain_all
