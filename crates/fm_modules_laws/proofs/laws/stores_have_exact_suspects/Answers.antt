use Rattle.fm_modules_laws.proofs.Exact.{stands_exact}
use Rattle.fm_modules_laws.proofs.laws.stores_have_exact_suspects.Goals as goal

pub returns : goal.returns
returns g c = stands_exact g.D.Disk
