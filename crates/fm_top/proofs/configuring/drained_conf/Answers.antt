-- The store was drained and its configuration told, or the one or the other was refused.
use denote.Param.Send.{sendable}
use Rattle.std.proofs.Common.{subst}
use Rattle.dx_engine.proofs.Crossing.{diagnoser_send}
use Rattle.fm_drain.specs.DrainCalls.{DrainDoes, DrainsOnBook}
use Rattle.dx_engine.specs.Diagnosers.{diagnosers}
use Rattle.fm_top.proofs.Configs.{conf_done, conf_undone}
use Rattle.fm_top.proofs.configuring.drained_conf.Goals as goal

pub drain-hands-requires-send-M : goal.drain-hands-requires-send-M
drain-hands-requires-send-M g c κs = search (diagnoser_send, sendable)

pub returns-in-Ok-clause-did : goal.returns-in-Ok-clause-did
returns-in-Ok-clause-did g c =
    conf_done g.D.Disk c.args.store.now c.drain-hands.new.store c.args.hands.items
    c.drain-hands.result.0.items c.args.conf.now c.requires.ready c.in-Ok.field-0
    c.conf_text.result
    (subst (λ r. DrainDoes g.D.Disk diagnosers c.args.store.now c.drain-hands.new.store
    c.args.hands.items c.drain-hands.result.0.items r) c.in-Ok.is c.drain-hands.ensures.does)
    (λ fresh k stands follow. subst (λ r. DrainsOnBook g.D.Disk diagnosers fresh c.args.store.now
    c.drain-hands.new.store k c.drain-hands.result.0.items r) c.in-Ok.is
    (c.drain-hands.ensures.book fresh k stands follow))
    c.conf_text.ensures.told c.conf_text.ensures.wanted

pub returns-clause-did : goal.returns-clause-did
returns-clause-did g c =
    conf_undone g.D.Disk c.args.store.now c.drain-hands.new.store c.args.hands.items
    c.drain-hands.result.0.items c.args.conf.now c.requires.ready c.in-Err.fault
    (subst (λ r. DrainDoes g.D.Disk diagnosers c.args.store.now c.drain-hands.new.store
    c.args.hands.items c.drain-hands.result.0.items r) c.in-Err.is c.drain-hands.ensures.does)
    (λ fresh k stands follow. subst (λ r. DrainsOnBook g.D.Disk diagnosers fresh c.args.store.now
    c.drain-hands.new.store k c.drain-hands.result.0.items r) c.in-Err.is
    (c.drain-hands.ensures.book fresh k stands follow))
