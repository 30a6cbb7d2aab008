use Rattle.ev_ways.specs.Lists.{IsIn}
use Rattle.ev_ways.specs.Search.{IsFront, Grown, IsOneOf}
use Rattle.ev_ways.proofs.search.give.Given as goal

abbrev pub invariant-loop-node : goal.invariant-loop-node
invariant-loop-node l = record {
  front_is : IsFront l.value l.distance l.front.items;
  grown : Grown l.value (IsOneOf l.nodes l.node-index) (λ y. IsIn y l.nodes) l.initial.distance
      l.distance;
}
