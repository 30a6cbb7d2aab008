use Rattle.fm_gen.proofs.Turns.{are_generated}
use Rattle.fm_gen.proofs.laws.entries_are_generated.Goals as goal

pub returns : goal.returns
returns c = are_generated
