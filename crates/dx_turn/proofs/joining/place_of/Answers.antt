use Rattle.dx_turn.proofs.Gone.{place_more}
use Rattle.dx_turn.proofs.joining.place_of.Goals as goal

pub loop-at-preserved : goal.loop-at-preserved
loop-at-preserved c =
    place_more c.args.ground.now c.args.node c.args.cases.now c.loop-at.at
    c.index-cases-at.result c.takes.result c.loop-at-test.true c.index-cases-at.is c.requires
    c.takes.ensures c.if-takes.false c.loop-at.invariant
