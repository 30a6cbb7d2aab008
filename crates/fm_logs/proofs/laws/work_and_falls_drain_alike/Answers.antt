-- Working on a module and falling to the floors leave what is drained.
use Rattle.fm_core.proofs.Drains.{drained_worked, drained_floored}
use Rattle.fm_logs.proofs.laws.work_and_falls_drain_alike.Goals as goal

pub returns-clause-works : goal.returns-clause-works
returns-clause-works c = λ k i lawful es. drained_worked k i es lawful

pub returns-clause-falls : goal.returns-clause-falls
returns-clause-falls c = λ k lawful es. drained_floored k es
