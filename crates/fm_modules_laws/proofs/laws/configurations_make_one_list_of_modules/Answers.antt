use Rattle.fm_modules_laws.proofs.OneRow.{modules_one}
use Rattle.fm_modules_laws.proofs.laws.configurations_make_one_list_of_modules.Goals as goal

pub returns : goal.returns
returns c = modules_one
