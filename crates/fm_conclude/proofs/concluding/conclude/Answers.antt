-- The store was drained to its base and its records read, or the one or the other was refused.
use denote.Param.Send.{sendable}
use Rattle.std.proofs.Common.{OnOk, IfErr, sym, subst}
use Rattle.fm_store.specs.StoreCalls.{HandsAreDone}
use Rattle.fm_drain.specs.ToBase.{IsAtBase, ToBaseDoes, ToBaseOnBook, ToBaseRefused}
use Rattle.dx_engine.specs.Diagnosers.{diagnosers}
use Rattle.dx_engine.proofs.Crossing.{diagnoser_send}
use Rattle.fm_conclude.proofs.Counts.{base_counts, told_counts}
use Rattle.fm_conclude.proofs.Conclusions.{base_refused, concluded_told, full_by, reads_full}
use Rattle.fm_conclude.proofs.Conclusions.{reads_refused, refused_book, told_book}
use Rattle.fm_conclude.proofs.concluding.conclude.Goals as goal

pub returns-in-Ok-clause-quiet : goal.returns-in-Ok-clause-quiet
returns-in-Ok-clause-quiet g c =
    told_counts g.D.Disk c.args.store.now c.drain_to_base-hands.new.store
    c.read_conclusion.new.store c.read_conclusion.result
    (base_counts g.D.Disk diagnosers c.args.store.now.logs.closed c.args.store.now.logs.entries
    c.args.store.now c.drain_to_base-hands.new.store c.args.hands.items
    c.drain_to_base-hands.result.0.items c.in-Ok.field-0
    (subst (λ r. ToBaseDoes g.D.Disk diagnosers c.args.store.now c.drain_to_base-hands.new.store
    c.args.hands.items c.drain_to_base-hands.result.0.items r) c.in-Ok.is
    c.drain_to_base-hands.ensures.does))
    c.read_conclusion.ensures.reads c.read_conclusion.ensures.base_same
    c.read_conclusion.ensures.count_kept

pub returns-in-Ok-clause-concluded : goal.returns-in-Ok-clause-concluded
returns-in-Ok-clause-concluded g c =
    concluded_told g.D.Disk diagnosers c.args.store.now c.drain_to_base-hands.new.store
    c.read_conclusion.new.store c.drain_to_base-hands.result.0.items c.read_conclusion.result
    (subst (λ r. OnOk r (IsAtBase diagnosers c.args.store.now c.drain_to_base-hands.new.store
    c.drain_to_base-hands.result.0.items)) c.in-Ok.is c.drain_to_base-hands.ensures.at_base)
    c.read_conclusion.ensures.reads c.read_conclusion.ensures.few

pub returns-in-Ok-clause-refused : goal.returns-in-Ok-clause-refused
returns-in-Ok-clause-refused g c =
    let base = subst (λ r. OnOk r (IsAtBase diagnosers c.args.store.now
    c.drain_to_base-hands.new.store c.drain_to_base-hands.result.0.items)) c.in-Ok.is
    c.drain_to_base-hands.ensures.at_base in
    reads_refused g.D.Disk c.args.store.now c.drain_to_base-hands.new.store
    c.read_conclusion.new.store c.read_conclusion.result base.was_open base.is_open
    (base_counts g.D.Disk diagnosers c.args.store.now.logs.closed c.args.store.now.logs.entries
    c.args.store.now c.drain_to_base-hands.new.store c.args.hands.items
    c.drain_to_base-hands.result.0.items c.in-Ok.field-0
    (subst (λ r. ToBaseDoes g.D.Disk diagnosers c.args.store.now c.drain_to_base-hands.new.store
    c.args.hands.items c.drain_to_base-hands.result.0.items r) c.in-Ok.is
    c.drain_to_base-hands.ensures.does))
    c.read_conclusion.ensures.refused

pub returns-in-Ok-clause-limit : goal.returns-in-Ok-clause-limit
returns-in-Ok-clause-limit g c =
    reads_full g.D.Disk diagnosers c.args.store.now c.drain_to_base-hands.new.store
    c.read_conclusion.new.store c.args.hands.items c.read_conclusion.result
    c.read_conclusion.ensures.refused

pub returns-in-Ok-clause-book : goal.returns-in-Ok-clause-book
returns-in-Ok-clause-book g c = λ fresh k stands follow.
    let base = subst (λ r. OnOk r (IsAtBase diagnosers c.args.store.now
    c.drain_to_base-hands.new.store c.drain_to_base-hands.result.0.items)) c.in-Ok.is
    c.drain_to_base-hands.ensures.at_base in
    told_book g.D.Disk diagnosers fresh c.args.store.now c.drain_to_base-hands.new.store
    c.read_conclusion.new.store k c.drain_to_base-hands.result.0.items c.in-Ok.field-0
    c.read_conclusion.result
    (subst (λ r. ToBaseOnBook g.D.Disk diagnosers fresh c.args.store.now
    c.drain_to_base-hands.new.store k c.drain_to_base-hands.result.0.items r) c.in-Ok.is
    (c.drain_to_base-hands.ensures.book fresh k stands follow)) base.at_end
    c.read_conclusion.ensures.reads c.read_conclusion.ensures.base_same
    (c.read_conclusion.ensures.book fresh)
    (λ b there done end. c.read_conclusion.ensures.tells fresh b there
    (subst (HandsAreDone diagnosers b.book) (sym c.deref.ensures.value) done) end)
    (c.read_conclusion.ensures.undamaged fresh) c.read_conclusion.ensures.refused

pub returns-clause-refused : goal.returns-clause-refused
returns-clause-refused g c =
    base_refused g.D.Disk c.args.store.now c.drain_to_base-hands.new.store c.in-Err.fault
    (subst (λ r. IfErr r (ToBaseRefused g.D.Disk c.args.store.now
    c.drain_to_base-hands.new.store)) c.in-Err.is c.drain_to_base-hands.ensures.refused)

pub returns-clause-limit : goal.returns-clause-limit
returns-clause-limit g c =
    full_by g.D.Disk diagnosers c.args.store.now.logs.closed c.args.store.now.logs.entries
    c.args.store.now c.drain_to_base-hands.new.store c.args.hands.items
    c.drain_to_base-hands.result.0.items c.in-Err.fault
    (subst (λ r. ToBaseDoes g.D.Disk diagnosers c.args.store.now c.drain_to_base-hands.new.store
    c.args.hands.items c.drain_to_base-hands.result.0.items r) c.in-Err.is
    c.drain_to_base-hands.ensures.does)

pub returns-clause-book : goal.returns-clause-book
returns-clause-book g c = λ fresh k stands follow.
    refused_book g.D.Disk diagnosers g.met.D.Disk.only_now fresh c.args.store.now
    c.drain_to_base-hands.new.store k c.drain_to_base-hands.result.0.items c.in-Err.fault
    (subst (λ r. IfErr r (ToBaseRefused g.D.Disk c.args.store.now
    c.drain_to_base-hands.new.store)) c.in-Err.is c.drain_to_base-hands.ensures.refused)
    (subst (λ r. ToBaseOnBook g.D.Disk diagnosers fresh c.args.store.now
    c.drain_to_base-hands.new.store k c.drain_to_base-hands.result.0.items r) c.in-Err.is
    (c.drain_to_base-hands.ensures.book fresh k stands follow))

pub drain_to_base-hands-requires-send-M : goal.drain_to_base-hands-requires-send-M
drain_to_base-hands-requires-send-M g c κs = search (diagnoser_send, sendable)
