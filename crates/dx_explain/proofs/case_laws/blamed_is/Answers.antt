use Rattle.dx_explain.proofs.Blaming.{blame, blame_ascends}
use Rattle.dx_explain.proofs.case_laws.blamed_is.Goals as goal

pub returns : goal.returns
returns c = record { members = blame; ascend = blame_ascends }
