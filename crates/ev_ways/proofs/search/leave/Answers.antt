use Rattle.std.proofs.Common.{◌≡◌, length, arith, ap}
use Rattle.ev_ways.specs.Lists.{row}
use Rattle.ev_ways.proofs.Membership.{index_of}
use Rattle.ev_ways.proofs.Searches.{leave_more, leave_all}
use Rattle.ev_ways.proofs.search.leave.Goals as goal

pub take_arrow-requires-clause-arrow : goal.take_arrow-requires-clause-arrow
take_arrow-requires-clause-arrow c = rw c.row_of-arrows.ensures
    (c.args.links.now.uses_below c.args.node c.loop-arrow.arrow-index
    (rw (← c.row_of-arrows.ensures) c.loop-arrow-test.true))

pub loop-arrow-preserved : goal.loop-arrow-preserved
loop-arrow-preserved c = record {
  front_is = c.in_ok-take_arrow.ensures.front;
  taken_is = c.in_ok-take_arrow.ensures.taken;
  grown = rw c.row_of-arrows.ensures
      (leave_more c.args.links.now.causes.now c.args.links.now.effects.now c.args.links.now.uses.now
      c.args.node c.loop-arrow.arrow-index c.args.value
      c.args.distance.now c.loop-arrow.distance c.take_arrow.new.distance
      (index_of c.args.links.now.uses_turn)
      (rw (← c.row_of-arrows.ensures) c.loop-arrow-test.true)
      (rw (← c.row_of-arrows.ensures) c.loop-arrow.invariant.grown)
      (rw (← c.row_of-arrows.ensures) c.in_ok-take_arrow.ensures.grown));
}

pub returns-clause-grown : goal.returns-clause-grown
returns-clause-grown c =
    leave_all c.args.links.now.causes.now c.args.links.now.effects.now c.args.links.now.uses.now
    c.args.node c.args.value c.args.distance.now c.loop-arrow.distance
    (index_of c.args.links.now.uses_turn)
    (let e : c.loop-arrow.arrow-index ≡ length (row c.args.links.now.uses.now c.args.node) =
    omega (arith, ap length c.row_of-arrows.ensures) in
    rw (← e) (rw (← c.row_of-arrows.ensures) c.loop-arrow.invariant.grown))
