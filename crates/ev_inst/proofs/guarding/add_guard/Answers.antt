-- The guard stands behind the others of its node.
use Rattle.std.proofs.Common.{refl}
use Rattle.ev_inst.proofs.Collected.{guard_pushed}
use Rattle.ev_inst.proofs.guarding.add_guard.Goals as goal

pub returns : goal.returns
returns c =
    guard_pushed c.args.effect c.args.guard c.args.guarded.now c.index-guarded-effect.result
    c.requires _ refl c.in_ok-push.ensures.items
