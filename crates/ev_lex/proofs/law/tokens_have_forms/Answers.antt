use Rattle.ev_lex.proofs.Shapes.{formed}
use Rattle.ev_lex.proofs.law.tokens_have_forms.Goals as goal

pub returns : goal.returns
returns c text ts a = formed text ts a
