-- The graph of a rule file over a topology has classes and paths, categories that fit, and room.
use Rattle.fm_esc_laws.proofs.Spelled.{compiled_spelled}
use Rattle.fm_esc_laws.proofs.laws.compiled_files_are_spelled.Goals as goal

pub returns : goal.returns
returns g c = compiled_spelled g.S.Source
