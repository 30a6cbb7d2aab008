-- The store had no entries past its base, or it was drained, and then a checkpoint was written.
use Rattle.std.proofs.Common.{sym, ◌∙◌, subst}
use Rattle.fm_store.specs.StoreCalls.{CheckpointDoes, saves_of, HandsAreDone}
use Rattle.fm_drain.specs.DrainCalls.{DrainDoes, DrainsOnBook}
use Rattle.fm_drain.proofs.ToBaseLaws.{empty_is, some_are, still_at_base, still_on_book}
use Rattle.fm_drain.proofs.ToBaseLaws.{drained_does, stopped_does, at_base_after, why_after}
use Rattle.fm_drain.proofs.ToBaseLaws.{drain_why, drained_on_book, stopped_on_book}
use Rattle.fm_drain.proofs.to_base.drain_to_base.Goals as goal

pub returns-then-is_empty-clause-at_base : goal.returns-then-is_empty-clause-at_base
returns-then-is_empty-clause-at_base g c =
    still_at_base g.D.Disk g.M.Module c.args.store.now c.args.hands.items
    (sym c.closed.ensures ∙ c.in_default.is)
    (empty_is c.entries.result.now c.args.store.now.logs.entries c.is_empty.result
    c.entries.ensures.entries c.is_empty.ensures c.if-is_empty.true) c.requires.at_cursors

pub returns-then-is_empty-clause-book : goal.returns-then-is_empty-clause-book
returns-then-is_empty-clause-book g c = λ fresh k st follows.
    still_on_book g.D.Disk g.M.Module g.met.D.Disk.only_now fresh c.args.store.now k
    c.args.hands.items tt st follows
    (empty_is c.entries.result.now c.args.store.now.logs.entries c.is_empty.result
    c.entries.ensures.entries c.is_empty.ensures c.if-is_empty.true) c.requires.at_cursors

pub returns-in-Ok-clause-does : goal.returns-in-Ok-clause-does
returns-in-Ok-clause-does g c =
    drained_does g.D.Disk g.M.Module c.args.store.now c.drain-hands.new.store
    c.checkpoint-based.new.self c.args.hands.items c.drain-hands.result.0.items c.in-Ok.field-0
    c.checkpoint-based.result (sym c.closed.ensures ∙ c.in_default.is)
    (some_are c.entries.result.now c.args.store.now.logs.entries c.is_empty.result
    c.entries.ensures.entries c.is_empty.ensures c.if-is_empty.false)
    (subst (λ r. DrainDoes g.D.Disk g.M.Module c.args.store.now c.drain-hands.new.store
    c.args.hands.items c.drain-hands.result.0.items r) c.in-Ok.is c.drain-hands.ensures.does)
    (subst (λ hands. CheckpointDoes g.D.Disk c.drain-hands.new.store c.checkpoint-based.new.self
    (saves_of g.M.Module hands) c.checkpoint-based.result) c.deref.ensures.value
    c.checkpoint-based.ensures.does)

pub returns-in-Ok-clause-at_base : goal.returns-in-Ok-clause-at_base
returns-in-Ok-clause-at_base g c =
    let drain = subst (λ r. DrainDoes g.D.Disk g.M.Module c.args.store.now c.drain-hands.new.store
    c.args.hands.items c.drain-hands.result.0.items r) c.in-Ok.is c.drain-hands.ensures.does in
    at_base_after g.D.Disk g.M.Module c.args.store.now c.drain-hands.new.store
    c.checkpoint-based.new.self c.drain-hands.result.0.items c.checkpoint-based.result
    (sym c.closed.ensures ∙ c.in_default.is) drain.only drain.answer
    (subst (λ hands. CheckpointDoes g.D.Disk c.drain-hands.new.store c.checkpoint-based.new.self
    (saves_of g.M.Module hands) c.checkpoint-based.result) c.deref.ensures.value
    c.checkpoint-based.ensures.does)

pub returns-in-Ok-clause-refused : goal.returns-in-Ok-clause-refused
returns-in-Ok-clause-refused g c =
    let drain = subst (λ r. DrainDoes g.D.Disk g.M.Module c.args.store.now c.drain-hands.new.store
    c.args.hands.items c.drain-hands.result.0.items r) c.in-Ok.is c.drain-hands.ensures.does in
    why_after g.D.Disk g.M.Module c.args.store.now c.drain-hands.new.store
    c.checkpoint-based.new.self _ c.checkpoint-based.result
    (sym c.closed.ensures ∙ c.in_default.is) drain.only drain.answer.open_still
    c.checkpoint-based.ensures.does

pub returns-in-Ok-clause-book : goal.returns-in-Ok-clause-book
returns-in-Ok-clause-book g c = λ fresh k st follows.
    let drain = subst (λ r. DrainDoes g.D.Disk g.M.Module c.args.store.now c.drain-hands.new.store
    c.args.hands.items c.drain-hands.result.0.items r) c.in-Ok.is c.drain-hands.ensures.does in
    drained_on_book g.D.Disk g.M.Module fresh c.args.store.now c.drain-hands.new.store
    c.checkpoint-based.new.self k c.drain-hands.result.0.items c.in-Ok.field-0
    c.checkpoint-based.result st drain.only drain.answer.at_end
    (subst (λ r. DrainsOnBook g.D.Disk g.M.Module fresh c.args.store.now c.drain-hands.new.store k
    c.drain-hands.result.0.items r) c.in-Ok.is (c.drain-hands.ensures.book fresh k st follows))
    (subst (λ hands. CheckpointDoes g.D.Disk c.drain-hands.new.store c.checkpoint-based.new.self
    (saves_of g.M.Module hands) c.checkpoint-based.result) c.deref.ensures.value
    c.checkpoint-based.ensures.does)
    (λ w stands done. c.checkpoint-based.ensures.book fresh w stands
    (subst (λ hands. HandsAreDone g.M.Module w.book hands) (sym c.deref.ensures.value) done))

pub returns-in-Err-clause-does : goal.returns-in-Err-clause-does
returns-in-Err-clause-does g c =
    stopped_does g.D.Disk g.M.Module c.args.store.now c.drain-hands.new.store c.args.hands.items
    c.drain-hands.result.0.items c.in-Err.fault (sym c.closed.ensures ∙ c.in_default.is)
    (some_are c.entries.result.now c.args.store.now.logs.entries c.is_empty.result
    c.entries.ensures.entries c.is_empty.ensures c.if-is_empty.false)
    (subst (λ r. DrainDoes g.D.Disk g.M.Module c.args.store.now c.drain-hands.new.store
    c.args.hands.items c.drain-hands.result.0.items r) c.in-Err.is c.drain-hands.ensures.does)

pub returns-in-Err-clause-refused : goal.returns-in-Err-clause-refused
returns-in-Err-clause-refused g c =
    let drain = subst (λ r. DrainDoes g.D.Disk g.M.Module c.args.store.now c.drain-hands.new.store
    c.args.hands.items c.drain-hands.result.0.items r) c.in-Err.is c.drain-hands.ensures.does in
    drain_why g.D.Disk g.M.Module c.args.store.now c.drain-hands.new.store
    c.drain-hands.result.0.items c.in-Err.fault (sym c.closed.ensures ∙ c.in_default.is)
    drain.answer

pub returns-in-Err-clause-book : goal.returns-in-Err-clause-book
returns-in-Err-clause-book g c = λ fresh k st follows.
    let drain = subst (λ r. DrainDoes g.D.Disk g.M.Module c.args.store.now c.drain-hands.new.store
    c.args.hands.items c.drain-hands.result.0.items r) c.in-Err.is c.drain-hands.ensures.does in
    stopped_on_book g.D.Disk g.M.Module g.met.D.Disk.only_now fresh c.args.store.now
    c.drain-hands.new.store k c.drain-hands.result.0.items c.in-Err.fault
    (subst (λ r. DrainsOnBook g.D.Disk g.M.Module fresh c.args.store.now c.drain-hands.new.store k
    c.drain-hands.result.0.items r) c.in-Err.is (c.drain-hands.ensures.book fresh k st follows))
    (drain.limit fresh k st follows)
