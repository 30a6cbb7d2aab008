-- One more item was read.
use Rattle.fm_bytes.proofs.ReadLoops.{items_more}
use Rattle.fm_entry.specs.WordReading.{word_from}
use Rattle.dx_kept.proofs.reading.take_each_word.Goals as goal

pub items-preserved : goal.items-preserved
items-preserved c =
    items_more (word_from c.args.own) _ _ _ _ _ _ _ _ c.items-test.true c.items.invariant
    c.in_ok-take_list_event.ensures.ok c.in_ok-push.ensures.items
