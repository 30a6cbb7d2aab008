-- The texts so far, and those that are left, are all.
use Rattle.std.proofs.Common.{◌≡◌, ◌-◌}
use Rattle.fm_bytes.specs.Reading.{items_from, long_text_from}
use Rattle.fm_bytes.proofs.ReadLoops.{behind}
use Rattle.fm_nv.proofs.reading.read_each_text.Given as goal

abbrev pub invariant-items : goal.invariant-items
invariant-items l =
    items_from (long_text_from 65536) l.count l.initial.input
    ≡ behind l.items.items (items_from (long_text_from 65536) (l.count - l.at) l.input)
