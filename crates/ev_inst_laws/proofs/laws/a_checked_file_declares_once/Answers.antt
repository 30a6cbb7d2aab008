-- No event of a checked file, and no engine, stands at two places.
use Rattle.ev_inst_laws.proofs.Once.{declares_once}
use Rattle.ev_inst_laws.proofs.laws.a_checked_file_declares_once.Goals as goal

pub returns : goal.returns
returns c = declares_once
