use Rattle.ev_parse.proofs.Ascii.{no_text_no_class}
use Rattle.ev_parse.proofs.tokens.read_word.Goals as goal

pub returns-in-Err : goal.returns-in-Err
returns-in-Err c = no_text_no_class c.args.bytes.now c.in-Err.ensures.cases.0
