use Rattle.fm_top_laws.proofs.Suited.{all_suited}
use Rattle.fm_top_laws.proofs.laws.suited_looks_find_nothing.Goals as goal

pub returns : goal.returns
returns c = all_suited c.a_rule_file_has_no_fault.ensures
