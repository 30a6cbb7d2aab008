-- One more item was read.
use Rattle.fm_bytes.proofs.ReadLoops.{items_more}
use Rattle.dx_kept.proofs.codecs.take_many.Goals as goal

pub items-preserved : goal.items-preserved
items-preserved g c =
    items_more g.C.Codec.reading _ _ _ _ _ _ _ _ c.items-test.true c.items.invariant
    c.in_ok-take.ensures.ok c.in_ok-push.ensures.items
