use Rattle.std.proofs.Common.{◌≡◌, None, length, arith, ap}
use Rattle.ev_ways.specs.Lists.{row}
use Rattle.ev_ways.proofs.Membership.{index_of}
use Rattle.ev_ways.proofs.Choices.{best_grows, best_more}
use Rattle.ev_ways.proofs.choice.best_step.Goals as goal

pub loop-arrow-preserved : goal.loop-arrow-preserved
loop-arrow-preserved c = rw c.row_of-arrows.ensures
    (best_grows c.args.links.now.causes.now c.args.links.now.effects.now c.args.links.now.uses.now
    c.args.node c.loop-arrow.arrow-index c.args.distance.now None c.loop-arrow.best
    c.consider_all-best.result (index_of c.args.links.now.uses_turn)
    (rw (← c.row_of-arrows.ensures) c.loop-arrow-test.true)
    (rw (← c.row_of-arrows.ensures) c.loop-arrow.invariant)
    (rw (← c.row_of-arrows.ensures, ← c.row_of.ensures) c.consider_all-best.ensures))

pub returns : goal.returns
returns c =
    best_more c.args.links.now.causes.now c.args.links.now.effects.now c.args.links.now.uses.now
    c.args.node c.args.distance.now c.loop-arrow.best (index_of c.args.links.now.uses_turn)
    (let e : c.loop-arrow.arrow-index ≡ length (row c.args.links.now.uses.now c.args.node) =
    omega (arith, ap length c.row_of-arrows.ensures) in
    rw (← e) (rw (← c.row_of-arrows.ensures) c.loop-arrow.invariant))
