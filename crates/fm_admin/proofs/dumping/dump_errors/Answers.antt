-- The store was drained and its active error journal read, or the one or the other was refused.
use Rattle.std.proofs.Common.{ap, subst}
use Rattle.fm_drain.specs.DrainCalls.{DrainDoes, DrainsOnBook}
use Rattle.fm_logs.specs.LogsOf.{name_of_two}
use Rattle.fm_admin.specs.Dumping.{IsErrorsText}
use Rattle.fm_admin.proofs.Dumps.{errors_dumped, errors_first, errors_refused, log_read}
use Rattle.fm_admin.proofs.Tellings.{drain_why, read_book, stopped_book}
use Rattle.fm_admin.proofs.dumping.dump_errors.Goals as goal

pub returns-in-Ok-clause-dumped : goal.returns-in-Ok-clause-dumped
returns-in-Ok-clause-dumped g c =
    errors_dumped g.D.Disk g.M.Module c.args.store.now c.drain-hands.new.store
    c.read_errors.new.store c.args.hands.items c.drain-hands.result.0.items c.in-Ok.field-0
    c.args.options.now (λ text. text.items) c.read_errors.result
    (subst (λ r. DrainDoes g.D.Disk g.M.Module c.args.store.now c.drain-hands.new.store
    c.args.hands.items c.drain-hands.result.0.items r) c.in-Ok.is c.drain-hands.ensures.does)
    c.read_errors.ensures.reads c.read_errors.ensures.base_same c.read_errors.ensures.text

pub returns-in-Ok-clause-refused : goal.returns-in-Ok-clause-refused
returns-in-Ok-clause-refused g c =
    errors_refused g.D.Disk g.M.Module c.args.store.now c.drain-hands.new.store
    c.read_errors.new.store c.args.hands.items c.drain-hands.result.0.items c.in-Ok.field-0
    c.read_errors.result
    (subst (λ r. DrainDoes g.D.Disk g.M.Module c.args.store.now c.drain-hands.new.store
    c.args.hands.items c.drain-hands.result.0.items r) c.in-Ok.is c.drain-hands.ensures.does)
    c.read_errors.ensures.base_same c.read_errors.ensures.reads
    c.read_errors.ensures.refused

pub returns-in-Ok-clause-book : goal.returns-in-Ok-clause-book
returns-in-Ok-clause-book g c = λ fresh k stands follow.
    let drain = subst (λ r. DrainDoes g.D.Disk g.M.Module c.args.store.now
    c.drain-hands.new.store c.args.hands.items c.drain-hands.result.0.items r) c.in-Ok.is
    c.drain-hands.ensures.does in
    read_book g.D.Disk g.M.Module fresh (name_of_two c.args.store.now.logs.second)
    c.args.store.now c.drain-hands.new.store
    c.read_errors.new.store k c.drain-hands.result.0.items c.in-Ok.field-0 c.read_errors.result
    (λ now text. IsErrorsText c.args.options.now c.args.store.now.logs.active.first
    now.book text.items) stands
    (subst (λ r. DrainsOnBook g.D.Disk g.M.Module fresh c.args.store.now c.drain-hands.new.store
    k c.drain-hands.result.0.items r) c.in-Ok.is
    (c.drain-hands.ensures.book fresh k stands follow))
    drain.answer.at_end
    (log_read g.D.Disk g.M.Module c.args.store.now c.drain-hands.new.store
    c.read_errors.new.store (ap (λ s. s.logs.second) drain.only) c.read_errors.ensures.reads)
    (c.read_errors.ensures.book fresh)
    (λ b there done end. errors_first g.D.Disk g.M.Module c.args.store.now
    c.drain-hands.new.store b c.args.options.now (λ text. text.items) c.read_errors.result
    drain.only (c.read_errors.ensures.told fresh b there))
    (c.read_errors.ensures.undamaged fresh)

pub returns-clause-refused : goal.returns-clause-refused
returns-clause-refused g c =
    drain_why g.D.Disk g.M.Module (name_of_two c.args.store.now.logs.second) c.args.store.now
    c.drain-hands.new.store
    c.args.hands.items c.drain-hands.result.0.items c.in-Err.fault
    (subst (λ r. DrainDoes g.D.Disk g.M.Module c.args.store.now c.drain-hands.new.store
    c.args.hands.items c.drain-hands.result.0.items r) c.in-Err.is c.drain-hands.ensures.does)

pub returns-clause-book : goal.returns-clause-book
returns-clause-book g c = λ fresh k stands follow.
    stopped_book g.D.Disk g.M.Module g.met.D.Disk.only_now fresh
    (name_of_two c.args.store.now.logs.second) c.args.store.now
    c.drain-hands.new.store k c.args.hands.items c.drain-hands.result.0.items c.in-Err.fault
    (λ now text. IsErrorsText c.args.options.now c.args.store.now.logs.active.first
    now.book text.items)
    (subst (λ r. DrainDoes g.D.Disk g.M.Module c.args.store.now c.drain-hands.new.store
    c.args.hands.items c.drain-hands.result.0.items r) c.in-Err.is c.drain-hands.ensures.does)
    (subst (λ r. DrainsOnBook g.D.Disk g.M.Module fresh c.args.store.now c.drain-hands.new.store
    k c.drain-hands.result.0.items r) c.in-Err.is
    (c.drain-hands.ensures.book fresh k stands follow))
