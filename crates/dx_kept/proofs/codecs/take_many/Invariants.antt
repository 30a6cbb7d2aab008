-- What was read so far, and what is left, is all.
use Rattle.std.proofs.Common.{◌≡◌, ◌-◌}
use Rattle.fm_bytes.specs.Reading.{items_from}
use Rattle.fm_bytes.proofs.ReadLoops.{behind}
use Rattle.dx_kept.proofs.codecs.take_many.Given as goal

abbrev pub invariant-items : goal.invariant-items
invariant-items g l =
    items_from g.C.Codec.reading l.count l.initial.input
    ≡ behind l.items.items (items_from g.C.Codec.reading (l.count - l.at) l.input)
