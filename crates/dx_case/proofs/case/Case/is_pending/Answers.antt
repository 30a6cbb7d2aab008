use Rattle.dx_case.proofs.Standing.{waits_is_case}
use Rattle.dx_case.proofs.case.Case.is_pending.Goals as goal

pub returns : goal.returns
returns c = λ g h. waits_is_case g c.args.self.now h
