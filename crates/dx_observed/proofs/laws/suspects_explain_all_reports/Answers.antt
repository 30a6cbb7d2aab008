use Rattle.dx_observed.proofs.Observed.{explained}
use Rattle.dx_observed.proofs.laws.suspects_explain_all_reports.Goals as goal

pub returns : goal.returns
returns c = explained
