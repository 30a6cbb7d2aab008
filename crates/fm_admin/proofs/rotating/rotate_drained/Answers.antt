-- The store was drained and rotated, or the one or the other was refused.
use Rattle.std.proofs.Common.{sym, subst}
use Rattle.fm_drain.specs.DrainCalls.{DrainDoes, DrainsOnBook}
use Rattle.fm_store.specs.Rotating.{RotateDoes}
use Rattle.fm_store.specs.StoreCalls.{HandsAreDone, saves_of}
use Rattle.fm_admin.proofs.Counts.{rotation_counts}
use Rattle.fm_admin.proofs.Rotations.{refused_after, refused_before, rotated_after, rotation_book}
use Rattle.fm_admin.proofs.Rotations.{stopped_rotation}
use Rattle.fm_admin.proofs.rotating.rotate_drained.Goals as goal

pub returns-in-Ok-clause-rotated : goal.returns-in-Ok-clause-rotated
returns-in-Ok-clause-rotated g c =
    rotated_after g.D.Disk g.M.Module c.args.store.now c.drain-hands.new.store c.rotate.new.self
    c.args.hands.items c.drain-hands.result.0.items c.in-Ok.field-0 c.rotate.result
    (subst (λ r. DrainDoes g.D.Disk g.M.Module c.args.store.now c.drain-hands.new.store
    c.args.hands.items c.drain-hands.result.0.items r) c.in-Ok.is c.drain-hands.ensures.does)
    (subst (λ hands. RotateDoes g.D.Disk c.drain-hands.new.store c.rotate.new.self
    (saves_of g.M.Module hands) c.rotate.result) c.deref.ensures.value c.rotate.ensures.does)

pub returns-in-Ok-clause-quiet : goal.returns-in-Ok-clause-quiet
returns-in-Ok-clause-quiet g c =
    rotation_counts g.D.Disk g.M.Module c.args.store.now c.drain-hands.new.store c.rotate.new.self
    c.args.hands.items c.drain-hands.result.0.items c.in-Ok.field-0 c.rotate.result
    (subst (λ r. DrainDoes g.D.Disk g.M.Module c.args.store.now c.drain-hands.new.store
    c.args.hands.items c.drain-hands.result.0.items r) c.in-Ok.is c.drain-hands.ensures.does)
    (subst (λ hands. RotateDoes g.D.Disk c.drain-hands.new.store c.rotate.new.self
    (saves_of g.M.Module hands) c.rotate.result) c.deref.ensures.value c.rotate.ensures.does)

pub returns-in-Ok-clause-refused : goal.returns-in-Ok-clause-refused
returns-in-Ok-clause-refused g c =
    refused_after g.D.Disk g.M.Module c.args.store.now c.drain-hands.new.store c.rotate.new.self
    c.args.hands.items c.drain-hands.result.0.items c.in-Ok.field-0 c.rotate.result
    (subst (λ r. DrainDoes g.D.Disk g.M.Module c.args.store.now c.drain-hands.new.store
    c.args.hands.items c.drain-hands.result.0.items r) c.in-Ok.is c.drain-hands.ensures.does)
    (subst (λ hands. RotateDoes g.D.Disk c.drain-hands.new.store c.rotate.new.self
    (saves_of g.M.Module hands) c.rotate.result) c.deref.ensures.value c.rotate.ensures.does)

pub returns-in-Ok-clause-book : goal.returns-in-Ok-clause-book
returns-in-Ok-clause-book g c = λ fresh k stands follow.
    rotation_book g.D.Disk g.M.Module fresh c.args.store.now c.drain-hands.new.store
    c.rotate.new.self k c.args.hands.items c.drain-hands.result.0.items c.in-Ok.field-0
    c.rotate.result stands
    (subst (λ r. DrainDoes g.D.Disk g.M.Module c.args.store.now c.drain-hands.new.store
    c.args.hands.items c.drain-hands.result.0.items r) c.in-Ok.is c.drain-hands.ensures.does)
    (subst (λ r. DrainsOnBook g.D.Disk g.M.Module fresh c.args.store.now c.drain-hands.new.store k
    c.drain-hands.result.0.items r) c.in-Ok.is (c.drain-hands.ensures.book fresh k stands follow))
    (subst (λ hands. RotateDoes g.D.Disk c.drain-hands.new.store c.rotate.new.self
    (saves_of g.M.Module hands) c.rotate.result) c.deref.ensures.value c.rotate.ensures.does)
    (λ w there done. c.rotate.ensures.book fresh w there
    (subst (λ hands. HandsAreDone g.M.Module w.book hands) (sym c.deref.ensures.value) done))

pub returns-clause-refused : goal.returns-clause-refused
returns-clause-refused g c =
    refused_before g.D.Disk g.M.Module c.args.store.now c.drain-hands.new.store c.args.hands.items
    c.drain-hands.result.0.items c.in-Err.fault
    (subst (λ r. DrainDoes g.D.Disk g.M.Module c.args.store.now c.drain-hands.new.store
    c.args.hands.items c.drain-hands.result.0.items r) c.in-Err.is c.drain-hands.ensures.does)

pub returns-clause-book : goal.returns-clause-book
returns-clause-book g c = λ fresh k stands follow.
    let drain = subst (λ r. DrainDoes g.D.Disk g.M.Module c.args.store.now c.drain-hands.new.store
    c.args.hands.items c.drain-hands.result.0.items r) c.in-Err.is c.drain-hands.ensures.does in
    stopped_rotation g.D.Disk g.M.Module g.met.D.Disk.only_now fresh c.args.store.now
    c.drain-hands.new.store k c.args.hands.items c.drain-hands.result.0.items c.in-Err.fault
    drain
    (subst (λ r. DrainsOnBook g.D.Disk g.M.Module fresh c.args.store.now c.drain-hands.new.store k
    c.drain-hands.result.0.items r) c.in-Err.is (c.drain-hands.ensures.book fresh k stands follow))
    (drain.limit fresh k stands follow)
