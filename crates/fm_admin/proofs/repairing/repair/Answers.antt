-- An entry was found and taken, or there was none, or the look for it was refused.
use denote.Param.Send.{sendable}
use Rattle.dx_engine.proofs.Crossing.{diagnoser_send}
use Rattle.dx_engine.specs.Diagnosers.{diagnosers}
use Rattle.fm_admin.specs.Repairing.{AreHandsAndEntry}
use Rattle.fm_admin.proofs.RepairBooks.{entry_taken, look_refused, none_repaired, repair_did}
use Rattle.fm_admin.proofs.RepairBooks.{repair_refused}
use Rattle.fm_admin.proofs.repairing.repair.Goals as goal

pub returns-in-Some-clause-did : goal.returns-in-Some-clause-did
returns-in-Some-clause-did g c =
    repair_did g.D.Disk diagnosers c.args.store.now c.find_entry.new.store
    c.take_entry.new.store c.in-Some.entry c.take_entry.result c.in-Ok.ensures.drained
    c.take_entry.ensures.took

pub returns-in-Some-clause-refused : goal.returns-in-Some-clause-refused
returns-in-Some-clause-refused g c =
    repair_refused g.D.Disk diagnosers c.args.store.now c.find_entry.new.store
    c.take_entry.new.store c.args.hands.items c.in-Ok.hands.items c.in-Some.entry
    c.take_entry.result c.in-Ok.ensures.drained c.take_entry.ensures.refused

pub returns-in-Some-clause-book : goal.returns-in-Some-clause-book
returns-in-Some-clause-book g c = λ fresh k stands follow.
    let tells = c.in-Ok.ensures.book fresh k stands follow in
    entry_taken g.D.Disk diagnosers fresh c.args.store.now c.find_entry.new.store
    c.take_entry.new.store k c.args.order.now (λ hands. hands.items) c.in-Ok.hands c.in-Ok.found
    c.in-Some.entry c.take_entry.result c.in-Some.is tells
    (c.take_entry.ensures.book fresh tells.done.now tells.done.stands
    tells.done.told.0.follow) c.in-Ok.ensures.drained
    (c.take_entry.ensures.limit fresh tells.done.now tells.done.stands tells.done.told.0.follow)

pub returns-in-None-clause-book : goal.returns-in-None-clause-book
returns-in-None-clause-book g c = λ fresh k stands follow.
    none_repaired g.D.Disk diagnosers fresh c.args.store.now c.find_entry.new.store k
    c.args.order.now (λ hands. hands.items) c.in-Ok.hands c.in-Ok.found c.in-None.is
    (c.in-Ok.ensures.book fresh k stands follow)

pub returns-in-Err-clause-book : goal.returns-in-Err-clause-book
returns-in-Err-clause-book g c = λ fresh k stands follow.
    look_refused g.D.Disk diagnosers fresh c.args.store.now c.find_entry.new.store k
    c.args.order.now c.in-Err.fault
    (λ now found. AreHandsAndEntry diagnosers c.args.order.now k now found.0.items found.1)
    (c.in-Err.ensures.book fresh k stands follow) c.args.hands.items stands follow
    c.in-Err.ensures.refused

pub take_entry-requires-send-M : goal.take_entry-requires-send-M
take_entry-requires-send-M g c κs = search (diagnoser_send, sendable)
