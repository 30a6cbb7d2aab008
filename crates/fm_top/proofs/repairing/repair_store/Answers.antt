use Rattle.std.proofs.Common.{inl, inr, refl, rules, subst, Ok, Err}
use Rattle.std.proofs.lemmas.Result.{err_from_is_err_and}
use Rattle.fm_logs.specs.declared.fault.StoreFault.TheVariants.{NoMemory}
use Rattle.fm_top.specs.Repair.{RepairDone}
use Rattle.fm_top.proofs.Repairs.{as_asked, repair_done, repair_wanted}
use Rattle.fm_top.proofs.repairing.repair_store.Goals as goal

pub returns-in-Ok-Some-clause-does : goal.returns-in-Ok-Some-clause-does
returns-in-Ok-Some-clause-does g c = λ input out. (
  refl,
  refl,
  subst (λ o. RepairDone g.D.Disk c.args.request.now c.args.store.now c.repair.new.store
      c.args.hands.items c.args.conf.now (Ok o)) (search rules)
      (repair_done g.D.Disk c.args.request.now c.args.store.now c.repair.new.store
      c.args.hands.items c.args.conf.now c.requires.ready (Ok c.in-Ok-Some.field-0)
      c.in-Ok-Some.ensures.did tt (as_asked g.D.Disk c.args.request.now c.args.store.now
      c.repair.new.store
      c.args.hands.items c.args.conf.now c.requires.ready c.in_ok-order.order
      (Ok c.in-Ok-Some.field-0) c.in_ok-order.ensures.order c.in-Ok-Some.ensures.book)),
)

pub returns-in-Ok-None-clause-does : goal.returns-in-Ok-None-clause-does
returns-in-Ok-None-clause-does g c = λ input out. (
  refl,
  refl,
  inl (
    refl,
    subst (λ o. RepairDone g.D.Disk c.args.request.now c.args.store.now c.repair.new.store
        c.args.hands.items c.args.conf.now (Ok o)) (search rules)
        (repair_done g.D.Disk c.args.request.now c.args.store.now c.repair.new.store
        c.args.hands.items c.args.conf.now c.requires.ready (Ok c.in-Ok-None.field-0)
        c.in-Ok-None.ensures.did tt (as_asked g.D.Disk c.args.request.now c.args.store.now
        c.repair.new.store
        c.args.hands.items c.args.conf.now c.requires.ready c.in_ok-order.order
        (Ok c.in-Ok-None.field-0) c.in_ok-order.ensures.order c.in-Ok-None.ensures.book)),
  ),
)

pub returns-clause-does : goal.returns-clause-does
returns-clause-does g c = λ input out. (
  refl,
  refl,
  inr (
    c.in-Err.fault,
    c.from.ensures,
    repair_done g.D.Disk c.args.request.now c.args.store.now c.repair.new.store
        c.args.hands.items c.args.conf.now c.requires.ready (Err c.in-Err.fault) tt
        c.in-Err.ensures.refused (as_asked g.D.Disk c.args.request.now c.args.store.now
        c.repair.new.store
        c.args.hands.items c.args.conf.now c.requires.ready c.in_ok-order.order
        (Err c.in-Err.fault) c.in_ok-order.ensures.order c.in-Err.ensures.book),
  ),
)

pub returns-in_err-order-clause-does : goal.returns-in_err-order-clause-does
returns-in_err-order-clause-does g c = λ input out.
    let p = err_from_is_err_and c.from_residual.result c.from_residual.ensures.1 in
    rw (p.1, p.2) (
      refl,
      refl,
      inr (
        NoMemory,
        refl,
        repair_wanted g.D.Disk c.args.request.now c.args.store.now c.args.hands.items
            c.args.conf.now c.requires.ready,
      ),
    )
