use Rattle.dx_step.proofs.Module.{exact_words}
use Rattle.dx_step.proofs.laws.suspects_are_exact.Goals as goal

pub returns : goal.returns
returns c = exact_words
