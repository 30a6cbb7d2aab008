use Rattle.ev_ways.proofs.Searches.{spread_more}
use Rattle.ev_ways.proofs.search.spread.Goals as goal

pub loop-node-preserved : goal.loop-node-preserved
loop-node-preserved c = record {
  front_is = c.in_ok-leave.ensures.front;
  taken_is = c.in_ok-leave.ensures.taken;
  grown = spread_more c.args.links.now.causes.now c.args.links.now.effects.now c.args.nodes.now
      c.loop-node.node-index c.args.value
      c.args.distance.now c.loop-node.distance c.leave.new.distance c.loop-node-test.true
      c.loop-node.invariant.grown c.in_ok-leave.ensures.grown;
}
