use Rattle.std.proofs.Common.{◌<◌, subst}
use Rattle.std.specs.Prelude.{All}
use Rattle.std.proofs.lemmas.List.{take_all}
use Rattle.test_core.proofs.Counters.{all_more}
use Rattle.test_core.proofs.trials.are_below.Goals as goal

pub records-preserved : goal.records-preserved
records-preserved c =
    all_more (λ r. r.number < c.args.number) c.args.records.now c.records.spoken-index
    c.spoken-item.result c.records-test.true c.spoken-item.is
    c.records.invariant c.if-spoken-number.false

pub returns : goal.returns
returns c = λ holds.
    subst (All (λ r. r.number < c.args.number))
    (take_all c.records.spoken-index c.args.records.now c.records-test.false)
    c.records.invariant
