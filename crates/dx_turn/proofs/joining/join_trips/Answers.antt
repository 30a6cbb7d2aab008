use Rattle.std.proofs.Common.{◌∙◌}
use Rattle.dx_turn.proofs.Tripping.{trips_more}
use Rattle.dx_turn.proofs.joining.join_trips.Goals as goal

pub loop-node-preserved : goal.loop-node-preserved
loop-node-preserved c = record {
  kept = c.join_trip.ensures.kept ∙ c.loop-node.invariant.kept;
  gone = trips_more c.args.ground.now c.args.entry c.args.nodes.now c.loop-node.node-index
      c.args.work.now c.loop-node.work c.join_trip.new.work c.loop-node-test.true
      c.loop-node.invariant.gone c.in_ok-join_trip.ensures.ok;
}
