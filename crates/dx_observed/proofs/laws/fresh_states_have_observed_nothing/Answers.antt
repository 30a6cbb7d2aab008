use Rattle.std.proofs.Common.{refl}
use Rattle.dx_observed.proofs.laws.fresh_states_have_observed_nothing.Goals as goal

pub returns : goal.returns
returns c = λ r k x. refl
