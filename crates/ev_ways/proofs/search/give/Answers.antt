use Rattle.std.proofs.Common.{◌<◌, length, arith, get_or}
use Rattle.ev_ways.proofs.Searches.{give_more}
use Rattle.ev_ways.proofs.search.give.Goals as goal

pub loop-node-preserved : goal.loop-node-preserved
loop-node-preserved c =
    let k = c.loop-node.node-index in
    let lt : k < length c.args.nodes.now = c.loop-node-test.true in
    let inside : get_or c.args.nodes.now k 0 < length c.loop-node.distance =
    omega (arith, c.requires.inside k lt, c.loop-node.invariant.grown.lengths) in
    let step = give_more c.args.nodes.now k c.args.value c.args.distance.now c.loop-node.distance
    c.loop-node.front.items lt inside c.loop-node.invariant.front_is c.loop-node.invariant.grown
    in
    rw (c.in_ok-reach.ensures.distance, c.in_ok-reach.ensures.front)
    (record { front_is = step.0; grown = step.1 })
