-- What was read so far, and what is left, is all.
use Rattle.std.proofs.Common.{◌≡◌, ◌-◌}
use Rattle.fm_bytes.specs.Reading.{items_from}
use Rattle.fm_bytes.proofs.ReadLoops.{behind}
use Rattle.dx_state.specs.StateReading.{open_case_from}
use Rattle.dx_kept.proofs.reading.take_each_case.Given as goal

abbrev pub invariant-items : goal.invariant-items
invariant-items l =
    items_from (open_case_from l.marked) l.count l.initial.input
    ≡ behind l.items.items (items_from (open_case_from l.marked) (l.count - l.at) l.input)
