use Rattle.dx_live.proofs.Best.{best_greatest}
use Rattle.dx_live.proofs.live.best_is_greatest.Goals as goal

pub returns : goal.returns
returns c = best_greatest
