use Rattle.fm_core.proofs.Keeping.{follows_on}
use Rattle.fm_core.proofs.laws.hands_follow_on.Goals as goal

pub returns : goal.returns
returns c = λ k h f. follows_on k h f
