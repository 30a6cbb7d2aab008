use Rattle.test_core.specs.Trials.{IsFilled}
use Rattle.test_core.proofs.trials.work_on.Given as goal

abbrev pub invariant-turns : goal.invariant-turns
invariant-turns l = IsFilled l.core
