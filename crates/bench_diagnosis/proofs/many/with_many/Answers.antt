-- A diagnosis module may cross threads.
use denote.Param.Send.{sendable}
use Rattle.dx_engine.proofs.Crossing.{diagnoser_send}
use Rattle.bench_diagnosis.proofs.many.with_many.Goals as goal

pub work_through-requires-send-M : goal.work_through-requires-send-M
work_through-requires-send-M c κs = search (diagnoser_send, sendable)
