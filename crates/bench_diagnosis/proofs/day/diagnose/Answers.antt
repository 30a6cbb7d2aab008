-- A diagnosis module may cross threads.
use denote.Param.Send.{sendable}
use Rattle.dx_engine.proofs.Crossing.{diagnoser_send}
use Rattle.bench_diagnosis.proofs.day.diagnose.Goals as goal

pub work-requires-send-M : goal.work-requires-send-M
work-requires-send-M c κs = search (diagnoser_send, sendable)
