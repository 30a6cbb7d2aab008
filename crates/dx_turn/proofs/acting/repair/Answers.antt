use Rattle.std.proofs.Common.{refl}
use Rattle.std.proofs.lemmas.Result.{on_ok_weaker}
use Rattle.dx_step.specs.Repairs.{mark}
use Rattle.dx_turn.proofs.Acts.{told_gone}
use Rattle.dx_turn.proofs.acting.repair.Goals as goal

pub returns-clause-ok : goal.returns-clause-ok
returns-clause-ok g c =
    on_ok_weaker c.mark.result
    (λ h. told_gone c.args.ground.now (mark (g.C.Choice.chosen c.args.choice.now) c.args.with)
    c.args.work.now _ c.requires.work refl h)
    c.mark.ensures
