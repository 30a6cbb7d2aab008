use Rattle.test_core.specs.Trials.{IsFilled}
use Rattle.test_core.proofs.trials.filled.Given as goal

abbrev pub invariant-reports : goal.invariant-reports
invariant-reports l = IsFilled l.core
