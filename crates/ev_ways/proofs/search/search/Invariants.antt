use Rattle.ev_ways.specs.Search.{Searched}
use Rattle.ev_ways.proofs.search.search.Given as goal

abbrev pub invariant-loop-level : goal.invariant-loop-level
invariant-loop-level l =
    Searched l.links.causes.now l.links.effects.now l.starts l.level l.distance l.front.items
    l.taken
