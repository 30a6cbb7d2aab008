use Rattle.dx_along.proofs.Along.{exact_along}
use Rattle.dx_along.proofs.laws.suspects_are_exact_along.Goals as goal

pub returns : goal.returns
returns c = exact_along
