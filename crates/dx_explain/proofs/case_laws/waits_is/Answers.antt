use Rattle.dx_explain.proofs.Meaning.{waiting}
use Rattle.dx_explain.proofs.case_laws.waits_is.Goals as goal

pub returns : goal.returns
returns c = waiting
