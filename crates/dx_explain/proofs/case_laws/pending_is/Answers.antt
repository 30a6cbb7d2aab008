use Rattle.dx_explain.proofs.Meaning.{pending}
use Rattle.dx_explain.proofs.case_laws.pending_is.Goals as goal

pub returns : goal.returns
returns c = pending
