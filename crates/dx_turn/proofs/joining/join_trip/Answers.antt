use Rattle.std.proofs.Common.{◌∙◌}
use Rattle.std.proofs.lemmas.Result.{on_ok_weaker}
use Rattle.dx_turn.proofs.Tripping.{trip_is}
use Rattle.dx_turn.proofs.joining.join_trip.Goals as goal

pub returns-clause-ok : goal.returns-clause-ok
returns-clause-ok c =
    let d = c.args.ground.now in
    on_ok_weaker c.join.result
    (λ h. record {
      turn = h.turn ∙ trip_is d c.args.node c.args.entry c.deref.result.now c.args.work.now
          (c.deref.ensures.value ∙ c.in_ok-links.ensures);
      work = h.work;
    })
    c.join.ensures.ok
