use Rattle.fm_core.proofs.Spoken.{stays_lawful}
use Rattle.fm_core.proofs.laws.words_are_spelled.Goals as goal

pub returns : goal.returns
returns c = λ m s n es h few spelled. stays_lawful m s n es h few spelled
