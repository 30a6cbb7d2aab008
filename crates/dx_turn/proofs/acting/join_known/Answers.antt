use Rattle.std.proofs.Common.{◌∙◌}
use Rattle.std.proofs.lemmas.Result.{on_ok_weaker}
use Rattle.dx_turn.proofs.Names.{joined_known}
use Rattle.dx_turn.proofs.acting.join_known.Goals as goal

pub returns-clause-ok : goal.returns-clause-ok
returns-clause-ok c =
    on_ok_weaker c.join.result
    (λ h. joined_known c.args.ground.now c.args.entry c.args.node c.args.payload.now
    c.deref.result.now c.args.work.now c.join.new.work
    (c.deref.ensures.value ∙ c.in_ok-links.ensures) h)
    c.join.ensures.ok
