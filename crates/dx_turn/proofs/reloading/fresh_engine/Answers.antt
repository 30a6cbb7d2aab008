use Rattle.dx_turn.proofs.Reloads.{limited}
use Rattle.dx_turn.proofs.reloading.fresh_engine.Goals as goal

pub new-requires : goal.new-requires
new-requires c = limited c.args.spec.now c.requires
