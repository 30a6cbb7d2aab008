-- One record after another gives its words.
use Rattle.std.proofs.Common.{◌≡◌, [], ◌∷◌, arith}
use Rattle.std.proofs.lemmas.Grind.{common_steps}
use Rattle.std.specs.Vec.Iter.{into_iter_items}
use Rattle.fm_drain.proofs.RecordRows.{rows_start, rows_more, rows_end}
use Rattle.fm_drain.proofs.case_status.status_from.Goals as goal

pub records-init : goal.records-init
records-init c =
    rows_start c.args.records.items (into_iter_items c.into_iter-record-iterator.result)
    c.new-status.result c.into_iter-record-iterator.ensures.into_iter_gives.0 c.new-status.ensures

pub records-preserved : goal.records-preserved
records-preserved c =
    let is : into_iter_items c.records.record-iterator
    ≡ c.in-Some.record ∷ into_iter_items c.next.new.self = grind (arith, common_steps) in
    rows_more c.args.records.items (into_iter_items c.records.record-iterator)
    (into_iter_items c.next.new.self) c.in-Some.record c.records.status c.take.new.self is
    c.records.invariant c.in_ok-take.ensures.last

pub returns : goal.returns
returns c =
    let none : into_iter_items c.records.record-iterator ≡ [] = grind (arith, common_steps) in
    rows_end c.args.records.items (into_iter_items c.records.record-iterator) c.records.status none
    c.records.invariant
