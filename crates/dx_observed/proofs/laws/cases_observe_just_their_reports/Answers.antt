use Rattle.dx_observed.proofs.Observed.{observed}
use Rattle.dx_observed.proofs.laws.cases_observe_just_their_reports.Goals as goal

pub returns : goal.returns
returns c = observed
