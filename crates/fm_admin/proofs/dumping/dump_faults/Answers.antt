-- The store was drained and its fault log read, or the one or the other was refused.
use Rattle.std.proofs.Common.{subst}
use Rattle.fm_drain.specs.DrainCalls.{DrainDoes, DrainsOnBook}
use Rattle.fm_logs.specs.declared.disks.DiskName.TheVariants.{Flt}
use Rattle.fm_admin.specs.Dumping.{IsFaultsText}
use Rattle.fm_admin.proofs.Dumps.{faults_drained, faults_refused}
use Rattle.fm_admin.proofs.Tellings.{drain_why, read_book, stopped_book}
use Rattle.fm_admin.proofs.dumping.dump_faults.Goals as goal

pub returns-in-Ok-clause-drained : goal.returns-in-Ok-clause-drained
returns-in-Ok-clause-drained g c =
    faults_drained g.D.Disk g.M.Module c.args.store.now c.drain-hands.new.store
    c.read_faults.new.store c.args.hands.items c.drain-hands.result.0.items c.in-Ok.field-0
    c.args.options.now c.args.namespace.now (λ text. text.items) c.read_faults.result
    (subst (λ r. DrainDoes g.D.Disk g.M.Module c.args.store.now c.drain-hands.new.store
    c.args.hands.items c.drain-hands.result.0.items r) c.in-Ok.is c.drain-hands.ensures.does)
    c.read_faults.ensures.reads c.read_faults.ensures.base_same c.read_faults.ensures.text

pub returns-in-Ok-clause-refused : goal.returns-in-Ok-clause-refused
returns-in-Ok-clause-refused g c =
    faults_refused g.D.Disk g.M.Module c.args.store.now c.drain-hands.new.store
    c.read_faults.new.store c.args.hands.items c.drain-hands.result.0.items c.in-Ok.field-0
    c.read_faults.result
    (subst (λ r. DrainDoes g.D.Disk g.M.Module c.args.store.now c.drain-hands.new.store
    c.args.hands.items c.drain-hands.result.0.items r) c.in-Ok.is c.drain-hands.ensures.does)
    c.read_faults.ensures.base_same c.read_faults.ensures.refused

pub returns-in-Ok-clause-book : goal.returns-in-Ok-clause-book
returns-in-Ok-clause-book g c = λ fresh k stands follow.
    let drain = subst (λ r. DrainDoes g.D.Disk g.M.Module c.args.store.now
    c.drain-hands.new.store c.args.hands.items c.drain-hands.result.0.items r) c.in-Ok.is
    c.drain-hands.ensures.does in
    read_book g.D.Disk g.M.Module fresh Flt c.args.store.now c.drain-hands.new.store
    c.read_faults.new.store k c.drain-hands.result.0.items c.in-Ok.field-0 c.read_faults.result
    (λ now text. IsFaultsText c.args.options.now c.args.namespace.now
    now.book.records text.items) stands
    (subst (λ r. DrainsOnBook g.D.Disk g.M.Module fresh c.args.store.now c.drain-hands.new.store
    k c.drain-hands.result.0.items r) c.in-Ok.is
    (c.drain-hands.ensures.book fresh k stands follow))
    drain.answer.at_end c.read_faults.ensures.reads.still (c.read_faults.ensures.book fresh)
    (λ b there done end. c.read_faults.ensures.told fresh b there)
    (c.read_faults.ensures.undamaged fresh)

pub returns-clause-refused : goal.returns-clause-refused
returns-clause-refused g c =
    drain_why g.D.Disk g.M.Module Flt c.args.store.now c.drain-hands.new.store
    c.args.hands.items c.drain-hands.result.0.items c.in-Err.fault
    (subst (λ r. DrainDoes g.D.Disk g.M.Module c.args.store.now c.drain-hands.new.store
    c.args.hands.items c.drain-hands.result.0.items r) c.in-Err.is c.drain-hands.ensures.does)

pub returns-clause-book : goal.returns-clause-book
returns-clause-book g c = λ fresh k stands follow.
    stopped_book g.D.Disk g.M.Module g.met.D.Disk.only_now fresh Flt c.args.store.now
    c.drain-hands.new.store k c.args.hands.items c.drain-hands.result.0.items c.in-Err.fault
    (λ now text. IsFaultsText c.args.options.now c.args.namespace.now
    now.book.records text.items)
    (subst (λ r. DrainDoes g.D.Disk g.M.Module c.args.store.now c.drain-hands.new.store
    c.args.hands.items c.drain-hands.result.0.items r) c.in-Err.is c.drain-hands.ensures.does)
    (subst (λ r. DrainsOnBook g.D.Disk g.M.Module fresh c.args.store.now c.drain-hands.new.store
    k c.drain-hands.result.0.items r) c.in-Err.is
    (c.drain-hands.ensures.book fresh k stands follow))
