use Rattle.fm_core.proofs.Configurations.{conf_is}
use Rattle.fm_core.proofs.laws.configurations_follow_reloads.Goals as goal

pub returns : goal.returns
returns c = λ m s n es. conf_is m s n es
