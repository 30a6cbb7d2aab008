use Rattle.std.proofs.Common.{subst}
use Rattle.ev_check.specs.Lawful.{IsLawfulFile}
use Rattle.ev_check.proofs.Lawfulness.{lawful_file}
use Rattle.ev_check.proofs.checked.Checked.props.Goals as goal

pub returns-clause-lawful : goal.returns-clause-lawful
returns-clause-lawful c = subst IsLawfulFile c.self.view_is (lawful_file _ c.self.invariant)
