-- Each step goes on from those before it.
use Rattle.std.proofs.Common.{◌≡◌, ◌+◌, ℕ, Result, OnOk, sym, ◌∙◌, ap, subst}
use Rattle.fm_logs.specs.declared.fault.StoreFault.{StoreFault}
use Rattle.fm_drain.specs.DrainSteps.{HandDoes}
use Rattle.fm_drain.proofs.HandLaws.{HandSteps, OnBooks, steps_none, steps_then}
use Rattle.fm_drain.proofs.steps.drain_hand.Goals as goal

pub entries-init : goal.entries-init
entries-init g c = (
  steps_none g.D.Disk g.M.Module g.met.D.Disk.only_now c.args.store.now c.args.hand tt
      c.requires.at_cursor,
  sym c.cursor-number.ensures,
)

pub returns-in-Err-clause-does : goal.returns-in-Err-clause-does
returns-in-Err-clause-does g c =
    subst (HandDoes g.D.Disk g.M.Module c.args.store.now c.step_hand-next.new.store c.args.hand
    c.step_hand-next.result.0) c.in-Err.is
    (steps_then g.D.Disk g.M.Module c.args.store.now c.entries.store c.step_hand-next.new.store
    c.args.hand c.entries.now c.step_hand-next.result.0 tt c.step_hand-next.result.1
    c.entries.invariant.0 c.step_hand-next.ensures.does c.step_hand-next.ensures.book
    c.step_hand-next.ensures.same_disks).does

pub returns-in-Err-clause-book : goal.returns-in-Err-clause-book
returns-in-Err-clause-book g c =
    subst (OnBooks g.D.Disk g.M.Module c.args.store.now c.step_hand-next.new.store c.args.hand)
    c.in-Err.is
    (steps_then g.D.Disk g.M.Module c.args.store.now c.entries.store c.step_hand-next.new.store
    c.args.hand c.entries.now c.step_hand-next.result.0 tt c.step_hand-next.result.1
    c.entries.invariant.0 c.step_hand-next.ensures.does c.step_hand-next.ensures.book
    c.step_hand-next.ensures.same_disks).book

pub entries-preserved : goal.entries-preserved
entries-preserved g c = (
  subst (HandSteps g.D.Disk g.M.Module c.args.store.now c.step_hand-next.new.store c.args.hand
      c.step_hand-next.result.0) c.in_default.is
      (steps_then g.D.Disk g.M.Module c.args.store.now c.entries.store
      c.step_hand-next.new.store c.args.hand c.entries.now c.step_hand-next.result.0 tt
      c.step_hand-next.result.1 c.entries.invariant.0 c.step_hand-next.ensures.does
      c.step_hand-next.ensures.book c.step_hand-next.ensures.same_disks),
  subst (λ (r : Result Unit StoreFault).
      OnOk r (c.step_hand-next.result.0.cursor ≡ c.entries.now.cursor + 1)) c.in_default.is
      c.step_hand-next.ensures.next
      ∙ ap (λ (n : ℕ). n + 1) c.entries.invariant.1,
)
