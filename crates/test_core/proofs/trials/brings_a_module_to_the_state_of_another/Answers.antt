use Rattle.std.proofs.Common.{◌∙◌, ap, sym}
use Rattle.fm_core.specs.Counter.{CounterOf, counter_meaning}
use Rattle.test_core.proofs.trials.brings_a_module_to_the_state_of_another.Goals as goal

pub restore-requires-clause-alike : goal.restore-requires-clause-alike
restore-requires-clause-alike g c κs =
    c.step.ensures.kept
    ∙ ap (λ (x : CounterOf). counter_meaning x.number)
    (c.new-first.ensures ∙ sym c.new-second.ensures)
