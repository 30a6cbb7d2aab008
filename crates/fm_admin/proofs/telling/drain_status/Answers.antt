-- The store was drained and its records read, or the one or the other was refused.
use Rattle.std.proofs.Common.{subst}
use Rattle.fm_drain.specs.DrainCalls.{DrainDoes, DrainsOnBook}
use Rattle.fm_logs.specs.declared.disks.DiskName.TheVariants.{Flt}
use Rattle.fm_admin.specs.Telling.{AreHandsAndStatus}
use Rattle.fm_admin.proofs.Tellings.{cursors_read, read_book, stopped_book}
use Rattle.fm_admin.proofs.telling.drain_status.Goals as goal

pub returns-in-Ok-read_status-clause-at_cursors : goal.returns-in-Ok-read_status-clause-at_cursors
returns-in-Ok-read_status-clause-at_cursors g c =
    cursors_read g.D.Disk g.M.Module c.args.store.now c.drain-hands.new.store
    c.read_status.new.store c.args.hands.items c.drain-hands.result.0.items c.in-Ok.field-0
    (subst (λ r. DrainDoes g.D.Disk g.M.Module c.args.store.now c.drain-hands.new.store
    c.args.hands.items c.drain-hands.result.0.items r) c.in-Ok.is c.drain-hands.ensures.does)
    c.read_status.ensures.reads

pub returns-in-Ok-read_status-clause-book : goal.returns-in-Ok-read_status-clause-book
returns-in-Ok-read_status-clause-book g c = λ fresh k stands follow.
    let drain = subst (λ r. DrainDoes g.D.Disk g.M.Module c.args.store.now c.drain-hands.new.store
    c.args.hands.items c.drain-hands.result.0.items r) c.in-Ok.is c.drain-hands.ensures.does in
    read_book g.D.Disk g.M.Module fresh Flt c.args.store.now c.drain-hands.new.store
    c.read_status.new.store k c.drain-hands.result.0.items c.in-Ok.field-0 _
    (λ now told. AreHandsAndStatus g.M.Module now told.0.items told.1) stands
    (subst (λ r. DrainsOnBook g.D.Disk g.M.Module fresh c.args.store.now c.drain-hands.new.store k
    c.drain-hands.result.0.items r) c.in-Ok.is (c.drain-hands.ensures.book fresh k stands follow))
    drain.answer.at_end c.read_status.ensures.reads.still (c.read_status.ensures.book fresh)
    (λ b there done end.
    (done, (c.in-Ok-read_status.ensures.status fresh b there).drained_status end))
    (λ b there. tt)

pub returns-in-Err-read_status-clause-book : goal.returns-in-Err-read_status-clause-book
returns-in-Err-read_status-clause-book g c = λ fresh k stands follow.
    let drain = subst (λ r. DrainDoes g.D.Disk g.M.Module c.args.store.now c.drain-hands.new.store
    c.args.hands.items c.drain-hands.result.0.items r) c.in-Ok.is c.drain-hands.ensures.does in
    read_book g.D.Disk g.M.Module fresh Flt c.args.store.now c.drain-hands.new.store
    c.read_status.new.store k c.drain-hands.result.0.items c.in-Ok.field-0 _
    (λ now told. AreHandsAndStatus g.M.Module now told.0.items told.1) stands
    (subst (λ r. DrainsOnBook g.D.Disk g.M.Module fresh c.args.store.now c.drain-hands.new.store k
    c.drain-hands.result.0.items r) c.in-Ok.is (c.drain-hands.ensures.book fresh k stands follow))
    drain.answer.at_end c.read_status.ensures.reads.still (c.read_status.ensures.book fresh)
    (λ b there done end. tt) (c.in-Err-read_status.ensures.undamaged fresh)

pub returns-in-Err-clause-book : goal.returns-in-Err-clause-book
returns-in-Err-clause-book g c = λ fresh k stands follow.
    stopped_book g.D.Disk g.M.Module g.met.D.Disk.only_now fresh Flt c.args.store.now
    c.drain-hands.new.store k c.args.hands.items c.drain-hands.result.0.items c.in-Err.fault
    (λ now told. AreHandsAndStatus g.M.Module now told.0.items told.1)
    (subst (λ r. DrainDoes g.D.Disk g.M.Module c.args.store.now c.drain-hands.new.store
    c.args.hands.items c.drain-hands.result.0.items r) c.in-Err.is c.drain-hands.ensures.does)
    (subst (λ r. DrainsOnBook g.D.Disk g.M.Module fresh c.args.store.now c.drain-hands.new.store k
    c.drain-hands.result.0.items r) c.in-Err.is (c.drain-hands.ensures.book fresh k stands follow))
