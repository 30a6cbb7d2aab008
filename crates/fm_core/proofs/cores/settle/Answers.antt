use Rattle.std.proofs.Common.{◌∙◌}
use Rattle.fm_core.proofs.Calls.{kept_more, some_left}
use Rattle.fm_core.proofs.cores.settle.Goals as goal

pub returns-clause-records : goal.returns-clause-records
returns-clause-records c =
    c.push_reserved.ensures.items
    ∙ kept_more c.args.records.now.items c.args.spoken
    (some_left c.as_slice.result.now c.args.spoken.events c.is_empty.result c.is_empty.ensures
    c.if-is_empty.false c.as_slice.ensures)
