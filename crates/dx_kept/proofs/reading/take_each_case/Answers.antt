-- One more item was read.
use Rattle.fm_bytes.proofs.ReadLoops.{items_more}
use Rattle.dx_state.specs.StateReading.{open_case_from}
use Rattle.dx_kept.proofs.reading.take_each_case.Goals as goal

pub items-preserved : goal.items-preserved
items-preserved c =
    items_more (open_case_from c.args.marked) _ _ _ _ _ _ _ _ c.items-test.true c.items.invariant
    c.in_ok-take_case.ensures.ok c.in_ok-push.ensures.items
