use denote.Param.Send.{sendable}
use Rattle.std.proofs.Common.{inl, inr, refl, rules, subst, Ok, Err}
use Rattle.dx_engine.proofs.Crossing.{diagnoser_send}
use Rattle.fm_top.specs.Explain.{ExplainDone}
use Rattle.fm_top.proofs.Explains.{explain_done}
use Rattle.fm_top.proofs.explaining.explain_store.Goals as goal

pub explain-requires-send-M : goal.explain-requires-send-M
explain-requires-send-M g c κs = search (diagnoser_send, sendable)

pub returns-in-Ok-Some-clause-does : goal.returns-in-Ok-Some-clause-does
returns-in-Ok-Some-clause-does g c = λ input out. (
  refl,
  refl,
  subst (λ o. ExplainDone g.D.Disk c.args.uuid.now c.args.store.now c.explain.new.store
      c.args.hands.items c.args.conf.now (Ok o)) (search rules)
      (explain_done g.D.Disk c.args.uuid.now c.args.store.now c.explain.new.store
      c.args.hands.items c.args.conf.now c.requires.ready (Ok c.in-Ok-Some.field-0)
      c.in-Ok-Some.ensures.drained tt c.in-Ok-Some.ensures.book),
)

pub returns-in-Ok-None-clause-does : goal.returns-in-Ok-None-clause-does
returns-in-Ok-None-clause-does g c = λ input out. (
  refl,
  refl,
  inl (
    refl,
    subst (λ o. ExplainDone g.D.Disk c.args.uuid.now c.args.store.now c.explain.new.store
        c.args.hands.items c.args.conf.now (Ok o)) (search rules)
        (explain_done g.D.Disk c.args.uuid.now c.args.store.now c.explain.new.store
        c.args.hands.items c.args.conf.now c.requires.ready (Ok c.in-Ok-None.field-0)
        c.in-Ok-None.ensures.drained tt c.in-Ok-None.ensures.book),
  ),
)

pub returns-in-Err-clause-does : goal.returns-in-Err-clause-does
returns-in-Err-clause-does g c = λ input out. (
  refl,
  refl,
  inr (
    c.in-Err.fault,
    c.from.ensures,
    explain_done g.D.Disk c.args.uuid.now c.args.store.now c.explain.new.store
        c.args.hands.items c.args.conf.now c.requires.ready (Err c.in-Err.fault) tt
        c.in-Err.ensures.refused c.in-Err.ensures.book,
  ),
)
