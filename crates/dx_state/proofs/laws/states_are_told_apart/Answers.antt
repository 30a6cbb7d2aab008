use Rattle.dx_state.proofs.StateReader.{diagnosis_once}
use Rattle.dx_state.proofs.laws.states_are_told_apart.Goals as goal

pub returns : goal.returns
returns c = λ own s t known h k same. diagnosis_once own known s t h k same
