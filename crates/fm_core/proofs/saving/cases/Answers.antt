use Rattle.std.proofs.Common.{◌+◌, ◌/◌, ◌<◌, ◌^◌, rules}
use Rattle.fm_core.specs.CountsOnce.{counts_are}
use Rattle.fm_core.proofs.Tallies.{cases_room}
use Rattle.fm_core.proofs.saving.cases.Goals as goal

pub overflow_add-cases : goal.overflow_add-cases
overflow_add-cases c =
    let fits : c.loop-x.cases + c.x-item.result.count / 3 < 2 ^ 64 =
    cases_room c.args.counts.now c.loop-x.x-index c.x-item.result c.loop-x.cases c.loop-x-test.true
    c.x-item.is c.loop-x.invariant
    (counts_are c.args.counts.now c.requires).total_fits in
    search rules
