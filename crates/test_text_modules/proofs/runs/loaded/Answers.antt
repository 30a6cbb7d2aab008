-- A diagnosis module may cross threads.
use denote.Param.Send.{sendable}
use Rattle.dx_engine.proofs.Crossing.{diagnoser_send}
use Rattle.test_text_modules.proofs.runs.loaded.Goals as goal

pub told_of-requires-send-M : goal.told_of-requires-send-M
told_of-requires-send-M c κs = search (diagnoser_send, sendable)
