use Rattle.fm_core.proofs.Runs.{lawful_floored}
use Rattle.fm_core.proofs.Drains.{drained_floored}
use Rattle.fm_core.proofs.laws.floors_are_lawful.Goals as goal

pub returns : goal.returns
returns c = λ k h. record { lawful = lawful_floored k h; drains = drained_floored k }
