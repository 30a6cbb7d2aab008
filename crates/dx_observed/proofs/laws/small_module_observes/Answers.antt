use Rattle.dx_observed.proofs.Small.{small_reports}
use Rattle.dx_observed.proofs.laws.small_module_observes.Goals as goal

pub returns : goal.returns
returns c = small_reports
