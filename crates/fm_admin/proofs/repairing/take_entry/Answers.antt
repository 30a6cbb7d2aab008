-- The entry was taken and the store drained and read, or one of these was refused.
use Rattle.std.proofs.Common.{rules}
use Rattle.fm_logs.specs.StoreBook.{store_accepted}
use Rattle.fm_logs.specs.declared.disks.DiskName.TheVariants.{Flt}
use Rattle.fm_logs.specs.declared.fault.StoreFault.TheVariants.{NoMemory}
use Rattle.fm_admin.specs.Repairing.{IsRepairedBy}
use Rattle.fm_admin.specs.Telling.{AreHandsAndStatus}
use Rattle.fm_admin.proofs.Repairs.{admitted_lawful, cursors_after, entry_limit, follow_accepted}
use Rattle.fm_admin.proofs.Repairs.{limit_as, number_taken, refused_entry, repaired_told}
use Rattle.fm_admin.proofs.Repairs.{taken_entry, taken_limit, taken_refused, took_one}
use Rattle.fm_admin.proofs.Tellings.{refused_as, told_on, wanting_on}
use Rattle.fm_admin.proofs.repairing.take_entry.Goals as goal

pub returns-in_err-number-clause-book : goal.returns-in_err-number-clause-book
returns-in_err-number-clause-book g c = λ fresh k stands follow.
    refused_entry g.D.Disk g.M.Module fresh c.args.store.now c.accept.new.self k c.args.entry
    c.in_err-number.field-0.0 c.from_residual.result (λ now told. IsRepairedBy k c.args.entry told)
    (search rules) c.in_err-number.ensures.does
    (c.in_err-number.ensures.book fresh k stands
    (admitted_lawful k c.args.entry stands.lawful c.requires.admitted))

pub returns-in_err-number-clause-limit : goal.returns-in_err-number-clause-limit
returns-in_err-number-clause-limit g c = λ fresh k stands follow.
    limit_as g.D.Disk g.M.Module c.args.store.now k c.args.entry c.in_err-number.field-0.0
    c.from_residual.result (search rules)
    (entry_limit g.D.Disk g.M.Module c.args.store.now c.accept.new.self k c.args.entry
    c.in_err-number.field-0.0 c.in_err-number.ensures.does)

pub drain_status-requires-clause-at_cursors : goal.drain_status-requires-clause-at_cursors
drain_status-requires-clause-at_cursors g c κs = λ alive.
    cursors_after g.D.Disk g.M.Module c.args.store.now.logs c.accept.new.self.logs
    c.args.hands.items c.args.entry c.in_ok-number.number c.in_ok-number.ensures.does
    c.requires.at_cursors

pub returns-in_err-_hands-clause-refused : goal.returns-in_err-_hands-clause-refused
returns-in_err-_hands-clause-refused g c =
    taken_refused g.D.Disk g.M.Module c.args.store.now c.accept.new.self c.drain_status.new.store
    c.args.hands.items c.args.entry c.in_ok-number.number c.in_err-_hands.field-0.0
    c.from_residual-in_err-_hands.result (search rules) c.in_ok-number.ensures.does
    c.accept.ensures.base_same c.in_err-_hands.ensures.refused

pub returns-in_err-_hands-clause-book : goal.returns-in_err-_hands-clause-book
returns-in_err-_hands-clause-book g c = λ fresh k stands follow.
    let accepts = c.in_ok-number.ensures.book fresh k stands
    (admitted_lawful k c.args.entry stands.lawful c.requires.admitted) in
    taken_entry g.D.Disk g.M.Module fresh c.args.store.now c.accept.new.self
    c.drain_status.new.store k c.args.entry c.in_ok-number.number
    c.from_residual-in_err-_hands.result (λ now told. IsRepairedBy k c.args.entry told) accepts
    (refused_as g.D.Disk fresh Flt c.accept.new.self c.drain_status.new.store
    (store_accepted k c.args.entry) c.in_err-_hands.field-0.0 c.from_residual-in_err-_hands.result
    (λ now told. AreHandsAndStatus g.M.Module now told.0.items told.1)
    (λ now told. IsRepairedBy k c.args.entry told) (search rules)
    (c.in_err-_hands.ensures.book fresh (store_accepted k c.args.entry) accepts.stands
    (follow_accepted g.D.Disk g.M.Module k c.args.entry c.args.hands.items follow)))

pub returns-in_err-_hands-clause-limit : goal.returns-in_err-_hands-clause-limit
returns-in_err-_hands-clause-limit g c = λ fresh k stands follow.
    let accepts = c.in_ok-number.ensures.book fresh k stands
    (admitted_lawful k c.args.entry stands.lawful c.requires.admitted) in
    limit_as g.D.Disk g.M.Module c.args.store.now k c.args.entry c.in_err-_hands.field-0.0
    c.from_residual-in_err-_hands.result (search rules)
    (taken_limit g.D.Disk g.M.Module fresh c.args.store.now c.accept.new.self
    c.drain_status.new.store k c.args.hands.items c.args.entry c.in_ok-number.number
    c.in_err-_hands.field-0.0 c.in_ok-number.ensures.does accepts.stands
    (follow_accepted g.D.Disk g.M.Module k c.args.entry c.args.hands.items follow)
    c.in_err-_hands.ensures.refused)

pub returns-in_err-repaired_of-clause-refused : goal.returns-in_err-repaired_of-clause-refused
returns-in_err-repaired_of-clause-refused g c =
    taken_refused g.D.Disk g.M.Module c.args.store.now c.accept.new.self c.drain_status.new.store
    c.args.hands.items c.args.entry c.in_ok-number.number NoMemory
    c.from_residual-in_err-repaired_of.result (search rules) c.in_ok-number.ensures.does
    c.accept.ensures.base_same tt

pub returns-in_err-repaired_of-clause-book : goal.returns-in_err-repaired_of-clause-book
returns-in_err-repaired_of-clause-book g c = λ fresh k stands follow.
    let accepts = c.in_ok-number.ensures.book fresh k stands
    (admitted_lawful k c.args.entry stands.lawful c.requires.admitted) in
    taken_entry g.D.Disk g.M.Module fresh c.args.store.now c.accept.new.self
    c.drain_status.new.store k c.args.entry c.in_ok-number.number
    c.from_residual-in_err-repaired_of.result (λ now told. IsRepairedBy k c.args.entry told)
    accepts
    (wanting_on g.D.Disk fresh Flt c.accept.new.self c.drain_status.new.store
    (store_accepted k c.args.entry) (c.in_ok-_hands._hands, c.in_ok-_hands.status)
    c.from_residual-in_err-repaired_of.result
    (λ now told. AreHandsAndStatus g.M.Module now told.0.items told.1)
    (λ now told. IsRepairedBy k c.args.entry told) (search rules)
    (c.in_ok-_hands.ensures.book fresh (store_accepted k c.args.entry) accepts.stands
    (follow_accepted g.D.Disk g.M.Module k c.args.entry c.args.hands.items follow)))

pub returns-in_err-repaired_of-clause-limit : goal.returns-in_err-repaired_of-clause-limit
returns-in_err-repaired_of-clause-limit g c = λ fresh k stands follow.
    limit_as g.D.Disk g.M.Module c.args.store.now k c.args.entry NoMemory
    c.from_residual-in_err-repaired_of.result (search rules) tt

pub returns-clause-took : goal.returns-clause-took
returns-clause-took g c =
    took_one g.D.Disk g.M.Module c.args.store.now c.accept.new.self c.drain_status.new.store
    c.args.entry c.in_ok-number.number c.in_ok-_hands.status c.in_ok-repaired_of.field-0
    c.in_ok-number.ensures.does c.accept.ensures.base_same c.in_ok-_hands.ensures.drained
    c.in_ok-repaired_of.ensures

pub returns-clause-book : goal.returns-clause-book
returns-clause-book g c = λ fresh k stands follow.
    let accepts = c.in_ok-number.ensures.book fresh k stands
    (admitted_lawful k c.args.entry stands.lawful c.requires.admitted) in
    taken_entry g.D.Disk g.M.Module fresh c.args.store.now c.accept.new.self
    c.drain_status.new.store k c.args.entry c.in_ok-number.number _
    (λ now told. IsRepairedBy k c.args.entry told) accepts
    (told_on g.D.Disk fresh Flt c.accept.new.self c.drain_status.new.store
    (store_accepted k c.args.entry) (c.in_ok-_hands._hands, c.in_ok-_hands.status) _
    (λ now told. AreHandsAndStatus g.M.Module now told.0.items told.1)
    (λ now told. IsRepairedBy k c.args.entry told)
    (c.in_ok-_hands.ensures.book fresh (store_accepted k c.args.entry) accepts.stands
    (follow_accepted g.D.Disk g.M.Module k c.args.entry c.args.hands.items follow))
    (λ now is told. repaired_told g.D.Disk g.M.Module k now c.args.entry c.in_ok-number.number
    c.in_ok-_hands.status c.in_ok-repaired_of.field-0
    (number_taken g.D.Disk g.M.Module fresh c.args.store.now c.accept.new.self k c.args.entry
    c.in_ok-number.number stands c.in_ok-number.ensures.does) is told.1
    c.in_ok-repaired_of.ensures) tt)
