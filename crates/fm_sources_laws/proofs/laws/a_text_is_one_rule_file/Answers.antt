-- Two checked files of a text are copies.
use Rattle.fm_sources_laws.proofs.OneFile.{rule_files_one}
use Rattle.fm_sources_laws.proofs.laws.a_text_is_one_rule_file.Goals as goal

pub returns : goal.returns
returns c = rule_files_one
