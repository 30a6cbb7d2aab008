-- Diagnosis modules may cross threads.
use denote.Param.Send.{sendable}
use Rattle.dx_engine.proofs.Crossing.{diagnoser_send}
use Rattle.fm_admin.proofs.marking.solved_by.Goals as goal

pub state-requires-send-M : goal.state-requires-send-M
state-requires-send-M c κs = search (diagnoser_send, sendable)
