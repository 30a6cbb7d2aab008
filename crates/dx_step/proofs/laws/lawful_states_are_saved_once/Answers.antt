use Rattle.dx_step.proofs.Module.{saved_once}
use Rattle.dx_step.proofs.laws.lawful_states_are_saved_once.Goals as goal

pub returns : goal.returns
returns c = saved_once
