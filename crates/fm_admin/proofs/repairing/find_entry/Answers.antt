-- The store was drained and read, and an entry looked for.
use denote.Param.Send.{sendable}
use Rattle.std.proofs.Common.{◌≡◌, rules, subst}
use Rattle.dx_engine.proofs.Crossing.{diagnoser_send}
use Rattle.fm_logs.specs.declared.disks.DiskName.TheVariants.{Flt}
use Rattle.dx_engine.specs.Diagnosers.{diagnosers}
use Rattle.fm_admin.specs.Marking.{entry_by, marks_hands}
use Rattle.fm_admin.specs.Repairing.{AreHandsAndEntry}
use Rattle.fm_admin.specs.Telling.{AreHandsAndStatus}
use Rattle.fm_admin.proofs.RepairBooks.{entry_found}
use Rattle.fm_admin.proofs.Tellings.{refused_as, told_on, wanting_on}
use Rattle.fm_admin.proofs.repairing.find_entry.Goals as goal

pub returns-in_err-hands-clause-book : goal.returns-in_err-hands-clause-book
returns-in_err-hands-clause-book g c = λ fresh k stands follow.
    refused_as g.D.Disk fresh Flt c.args.store.now c.drain_status.new.store k
    c.in_err-hands.field-0.0 c.from_residual.result _ _ (search rules)
    (c.in_err-hands.ensures.book fresh k stands follow)

pub returns-in_err-entry-clause-book : goal.returns-in_err-entry-clause-book
returns-in_err-entry-clause-book g c = λ fresh k stands follow.
    wanting_on g.D.Disk fresh Flt c.args.store.now c.drain_status.new.store k
    (c.in_ok-hands.hands, c.in_ok-hands.status) c.from_residual-in_err-entry.result _ _
    (search rules) (c.in_ok-hands.ensures.book fresh k stands follow)

pub returns-clause-book : goal.returns-clause-book
returns-clause-book g c = λ fresh k stands follow.
    told_on g.D.Disk fresh Flt c.args.store.now c.drain_status.new.store k
    (c.in_ok-hands.hands, c.in_ok-hands.status) _
    (λ now told. AreHandsAndStatus diagnosers now told.0.items told.1)
    (λ now found. AreHandsAndEntry diagnosers c.args.order.now k now found.0.items found.1)
    (c.in_ok-hands.ensures.book fresh k stands follow)
    (λ now is told. entry_found diagnosers c.args.order.now k now c.in_ok-hands.hands.items
    c.in_ok-hands.status _ is told
    (subst (λ hands. c.in_ok-entry.entry ≡ entry_by c.args.order.now.namespace
    c.args.order.now.moment c.args.order.now.repair c.in_ok-hands.status
    (marks_hands diagnosers hands)) c.deref.ensures.value c.in_ok-entry.ensures.entry)) tt

pub drain_status-requires-send-M : goal.drain_status-requires-send-M
drain_status-requires-send-M g c κs = search (diagnoser_send, sendable)
