-- The files in the text are just those that were put.
use Rattle.fm_esc_laws.proofs.Listed.{lines_same}
use Rattle.fm_esc_laws.proofs.laws.compiled_text_lists_as_its_rules.Goals as goal

pub returns : goal.returns
returns g c = lines_same g.S.Source
