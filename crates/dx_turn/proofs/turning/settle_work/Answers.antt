use Rattle.std.proofs.Common.{refl}
use Rattle.dx_turn.proofs.Both.{on_both}
use Rattle.dx_turn.proofs.Reloads.{settled_gone}
use Rattle.dx_turn.proofs.turning.settle_work.Goals as goal

pub returns-clause-ok : goal.returns-clause-ok
returns-clause-ok c =
    on_both c.settle_all.result
    (λ h k. settled_gone c.args.ground.now c.args.work.now _ refl h k c.requires.starts)
    c.settle_all.ensures.ok c.settle_all.ensures.current
