-- One more item was read.
use Rattle.fm_bytes.specs.Reading.{number_from}
use Rattle.fm_bytes.proofs.ReadLoops.{items_more}
use Rattle.fm_nv.proofs.reading.read_each_number.Goals as goal

pub items-preserved : goal.items-preserved
items-preserved c =
    items_more (number_from 8) _ _ _ _ _ _ _ _ c.items-test.true c.items.invariant
    c.in_ok-take_u64.ensures.ok c.in_ok-push.ensures.items
