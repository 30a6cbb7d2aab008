-- A diagnosis module may cross threads.
use denote.Param.Send.{sendable}
use Rattle.dx_engine.proofs.Crossing.{diagnoser_send}
use Rattle.bench_diagnosis.proofs.day.step_one.Goals as goal

pub step_module-requires-send-M : goal.step_module-requires-send-M
step_module-requires-send-M c κs = search (diagnoser_send, sendable)
