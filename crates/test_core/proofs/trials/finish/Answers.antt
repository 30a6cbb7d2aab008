use Rattle.test_core.proofs.Counters.{filled_on}
use Rattle.test_core.proofs.trials.finish.Goals as goal

pub returns-in-Ok : goal.returns-in-Ok
returns-in-Ok c = filled_on c.args.core.now c.drain.new.self c.drain.ensures.worked c.requires
