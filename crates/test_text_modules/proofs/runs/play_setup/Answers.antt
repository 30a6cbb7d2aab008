-- A diagnosis module may cross threads.
use denote.Param.Send.{sendable}
use Rattle.dx_engine.proofs.Crossing.{diagnoser_send}
use Rattle.test_text_modules.proofs.runs.play_setup.Goals as goal

pub play-requires-send-M : goal.play-requires-send-M
play-requires-send-M c κs = search (diagnoser_send, sendable)
