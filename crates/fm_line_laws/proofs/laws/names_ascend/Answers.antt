use Rattle.fm_line_laws.proofs.Names.{payload_ascends}
use Rattle.fm_line_laws.proofs.laws.names_ascend.Goals as goal

pub returns : goal.returns
returns c = payload_ascends
