use Rattle.std.proofs.Common.{length}
use Rattle.ev_ways.specs.Search.{IsFront, Grown, IsAfter, IsTaken}
use Rattle.ev_ways.proofs.search.spread.Given as goal

abbrev pub invariant-loop-node : goal.invariant-loop-node
invariant-loop-node l = record {
  front_is : IsFront l.value l.distance l.front.items;
  taken_is : IsTaken l.links.effects.now l.value l.distance l.taken;
  grown : Grown l.value (IsAfter l.links.causes.now l.links.effects.now l.nodes l.node-index)
      (IsAfter l.links.causes.now l.links.effects.now l.nodes (length l.nodes)) l.initial.distance
      l.distance;
}
