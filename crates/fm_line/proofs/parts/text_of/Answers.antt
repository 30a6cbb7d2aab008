use Rattle.fm_line.proofs.Texts.{text_of_text, text_of_none}
use Rattle.fm_line.proofs.parts.text_of.Goals as goal

pub returns-in-Ok : goal.returns-in-Ok
returns-in-Ok c = text_of_text _ _ c.in-Ok.ensures.cases.0 c.in-Ok.ensures.cases.1

pub returns-in-Err : goal.returns-in-Err
returns-in-Err c = text_of_none _ c.in-Err.ensures.cases.0
