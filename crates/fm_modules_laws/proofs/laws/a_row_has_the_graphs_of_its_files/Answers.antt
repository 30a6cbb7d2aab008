use Rattle.fm_modules_laws.proofs.OneRow.{row_has}
use Rattle.fm_modules_laws.proofs.laws.a_row_has_the_graphs_of_its_files.Goals as goal

pub returns : goal.returns
returns c = row_has
