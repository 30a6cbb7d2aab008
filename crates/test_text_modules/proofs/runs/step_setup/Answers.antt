-- A diagnosis module may cross threads.
use denote.Param.Send.{sendable}
use Rattle.dx_engine.proofs.Crossing.{diagnoser_send}
use Rattle.test_text_modules.proofs.runs.step_setup.Goals as goal

pub step_all-requires-send-M : goal.step_all-requires-send-M
step_all-requires-send-M c κs = search (diagnoser_send, sendable)
