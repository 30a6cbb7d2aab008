use Rattle.dx_explain.proofs.Meaning.{explaining}
use Rattle.dx_explain.proofs.case_laws.explains_is.Goals as goal

pub returns : goal.returns
returns c = explaining
