use Rattle.dx_observed.proofs.Firing.{trips_fired}
use Rattle.dx_observed.proofs.laws.fired_reports_are_of_engines.Goals as goal

pub returns : goal.returns
returns c = trips_fired
