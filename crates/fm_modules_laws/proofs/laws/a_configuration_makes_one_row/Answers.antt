use Rattle.fm_modules_laws.proofs.OneRow.{row_one}
use Rattle.fm_modules_laws.proofs.laws.a_configuration_makes_one_row.Goals as goal

pub returns : goal.returns
returns c = row_one
