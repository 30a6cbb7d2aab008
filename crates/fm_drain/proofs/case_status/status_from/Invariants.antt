-- The rows are those of the records so far.
use Rattle.std.specs.Vec.Iter.{into_iter_items}
use Rattle.fm_drain.proofs.RecordRows.{AreRowsBefore}
use Rattle.fm_drain.proofs.case_status.status_from.Given as goal

abbrev pub invariant-records : goal.invariant-records
invariant-records l =
    AreRowsBefore l.fn.records.items (into_iter_items l.record-iterator) l.status
