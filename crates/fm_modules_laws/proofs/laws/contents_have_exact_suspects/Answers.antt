use Rattle.fm_modules_laws.proofs.Exact.{contents_exact}
use Rattle.fm_modules_laws.proofs.laws.contents_have_exact_suspects.Goals as goal

pub returns : goal.returns
returns c = contents_exact
