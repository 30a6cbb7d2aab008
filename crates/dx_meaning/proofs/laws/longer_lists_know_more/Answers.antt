use Rattle.dx_meaning.proofs.Knowing.{know_more}
use Rattle.dx_meaning.proofs.laws.longer_lists_know_more.Goals as goal

pub returns : goal.returns
returns c = know_more
