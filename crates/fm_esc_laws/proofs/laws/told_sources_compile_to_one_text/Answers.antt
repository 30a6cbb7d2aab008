-- Both readings are of the same bytes.
use Rattle.fm_esc_laws.proofs.OneText.{text_one}
use Rattle.fm_esc_laws.proofs.laws.told_sources_compile_to_one_text.Goals as goal

pub returns : goal.returns
returns g c = text_one g.S.Source
