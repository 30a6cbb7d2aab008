use denote.Param.Send.{sendable}
use Rattle.std.proofs.lemmas.Result.{err_from_is_err_and}
use Rattle.dx_engine.proofs.Crossing.{diagnoser_send}
use Rattle.fm_top.proofs.Rotatings.{rotate_refused, rotate_told, rotate_untold}
use Rattle.fm_top.proofs.admin.rotate.Goals as goal

pub rotate_drained-requires-send-M : goal.rotate_drained-requires-send-M
rotate_drained-requires-send-M g c κs = search (diagnoser_send, sendable)

pub returns-in_ok-rotated_text-in-Ok-clause-did : goal.returns-in_ok-rotated_text-in-Ok-clause-did
returns-in_ok-rotated_text-in-Ok-clause-did g c = λ conf.
    rotate_told g.D.Disk c.args.store.now c.rotate_drained.new.store c.args.hands.items conf
    c.requires.ready c.in-Ok.base c.in-Ok.ensures.rotated c.in-Ok.ensures.quiet
    c.in-Ok.ensures.book _ c.in_ok-rotated_text-in-Ok.ensures

pub returns-in_err-rotated_text-in-Ok-clause-did
    : goal.returns-in_err-rotated_text-in-Ok-clause-did
returns-in_err-rotated_text-in-Ok-clause-did g c = λ conf.
    let p = err_from_is_err_and c.from_residual.result c.from_residual.ensures.1 in
    rw (p.1, p.2) (rotate_untold g.D.Disk c.args.store.now c.rotate_drained.new.store
    c.args.hands.items conf c.requires.ready c.in-Ok.base c.in-Ok.ensures.book)

pub returns-in-Err-clause-did : goal.returns-in-Err-clause-did
returns-in-Err-clause-did g c = λ conf.
    rotate_refused g.D.Disk c.args.store.now c.rotate_drained.new.store c.args.hands.items conf
    c.requires.ready c.in-Err.fault c.in-Err.ensures.refused c.in-Err.ensures.book
