use Rattle.std.proofs.Common.{length, refl, ap, ◌∙◌}
use Rattle.std.proofs.lemmas.List.{take_all}
use Rattle.std.proofs.lemmas.Option.{slice_get_read}
use Rattle.fm_core.specs.Hands.{stepped}
use Rattle.test_core.specs.Trials.{shown_after}
use Rattle.test_core.proofs.Counters.{rebuilt_on}
use Rattle.test_core.proofs.trials.rebuilt.Goals as goal

pub steps-preserved : goal.steps-preserved
steps-preserved c =
    c.in-Ok.ensures.hand
    ∙ ap (λ h. stepped h c.entry-item.result) c.steps.invariant
    ∙ rebuilt_on c.args.entries.now c.steps.entry-index c.entry-item.result
    (slice_get_read c.args.entries.now (length c.args.entries.now) c.steps.entry-index
    c.entry-item.result refl c.steps-test.true c.entry-item.is)

pub returns : goal.returns
returns c = c.steps.invariant
    ∙ ap shown_after (take_all c.steps.entry-index c.args.entries.now c.steps-test.false)
