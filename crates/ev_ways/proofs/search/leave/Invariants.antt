use Rattle.ev_ways.specs.Ways.{Leads}
use Rattle.ev_ways.specs.Search.{IsFront, Grown, IsEffectOf, IsTaken}
use Rattle.ev_ways.proofs.search.leave.Given as goal

abbrev pub invariant-loop-arrow : goal.invariant-loop-arrow
invariant-loop-arrow l = record {
  front_is : IsFront l.value l.distance l.front.items;
  taken_is : IsTaken l.links.effects.now l.value l.distance l.taken;
  grown : Grown l.value (IsEffectOf l.links.effects.now l.arrows l.arrow-index)
      (Leads l.links.causes.now l.links.effects.now l.node) l.initial.distance l.distance;
}
