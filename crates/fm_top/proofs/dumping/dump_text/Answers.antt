-- The one log was dumped, or the other.
use denote.Param.Send.{sendable}
use Rattle.dx_engine.proofs.Crossing.{diagnoser_send}
use Rattle.fm_top.proofs.Dumps.{errors_done, faults_done}
use Rattle.fm_top.proofs.dumping.dump_text.Goals as goal

pub dump_errors-requires-send-M : goal.dump_errors-requires-send-M
dump_errors-requires-send-M g c κs = search (diagnoser_send, sendable)

pub dump_faults-requires-send-M : goal.dump_faults-requires-send-M
dump_faults-requires-send-M g c κs = search (diagnoser_send, sendable)

pub returns-then-options-clause-did : goal.returns-then-options-clause-did
returns-then-options-clause-did g c =
    errors_done g.D.Disk c.args.options.now c.args.store.now c.dump_errors.new.store
    c.args.hands.items c.args.conf.now c.requires.ready c.dump_errors.result c.if-options.true
    c.dump_errors.ensures.dumped c.dump_errors.ensures.refused c.dump_errors.ensures.book

pub returns-else-options-clause-did : goal.returns-else-options-clause-did
returns-else-options-clause-did g c =
    faults_done g.D.Disk c.args.options.now c.args.store.now c.dump_faults.new.store
    c.args.hands.items c.args.conf.now c.requires.ready c.dump_faults.result c.if-options.false
    c.dump_faults.ensures.drained c.dump_faults.ensures.refused c.dump_faults.ensures.book
