use Rattle.fm_modules_laws.proofs.Exact.{image_exact}
use Rattle.fm_modules_laws.proofs.laws.images_have_exact_suspects.Goals as goal

pub returns : goal.returns
returns c = image_exact
