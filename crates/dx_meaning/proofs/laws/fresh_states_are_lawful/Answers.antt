use Rattle.dx_meaning.proofs.Beginning.{fresh_lawful}
use Rattle.dx_meaning.proofs.laws.fresh_states_are_lawful.Goals as goal

pub returns : goal.returns
returns c = fresh_lawful
