-- What was read so far, and what is left, is all.
use Rattle.std.proofs.Common.{◌≡◌, ◌-◌}
use Rattle.fm_bytes.specs.Reading.{items_from}
use Rattle.fm_bytes.proofs.ReadLoops.{behind}
use Rattle.fm_entry.specs.WordReading.{word_from}
use Rattle.dx_kept.proofs.reading.take_each_word.Given as goal

abbrev pub invariant-items : goal.invariant-items
invariant-items l =
    items_from (word_from l.own) l.count l.initial.input
    ≡ behind l.items.items (items_from (word_from l.own) (l.count - l.at) l.input)
