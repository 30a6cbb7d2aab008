use Rattle.test_core.proofs.Counters.{filled_new}
use Rattle.test_core.proofs.trials.two.Goals as goal

pub returns-in-Ok : goal.returns-in-Ok
returns-in-Ok c =
    filled_new c.in-Ok.core c.in_ok-own.own.items c.in_ok-kept.kept.items c.in-Ok.ensures.lawful
    c.in-Ok.ensures.made c.in_ok-own.ensures
    c.in_ok-kept.ensures
