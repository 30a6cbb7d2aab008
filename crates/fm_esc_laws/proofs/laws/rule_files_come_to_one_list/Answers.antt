use Rattle.fm_esc_laws.proofs.OneText.{list_one}
use Rattle.fm_esc_laws.proofs.laws.rule_files_come_to_one_list.Goals as goal

pub returns : goal.returns
returns c = list_one
