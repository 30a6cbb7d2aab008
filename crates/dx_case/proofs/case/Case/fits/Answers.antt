use Rattle.std.proofs.Common.{◌∙◌}
use Rattle.dx_case.proofs.Standing.{takes_is}
use Rattle.dx_case.proofs.case.Case.fits.Goals as goal

pub returns : goal.returns
returns c = λ g h.
    (rw c.as_slice.ensures.value at c.joins.ensures) h.observed_ascend h.candidates.reports_ascend
    ∙ takes_is g c.args.self.now h c.args.node
