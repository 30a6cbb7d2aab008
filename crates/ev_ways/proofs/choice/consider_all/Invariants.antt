use Rattle.ev_ways.specs.Lists.{IsIn}
use Rattle.ev_ways.specs.Search.{IsOneOf}
use Rattle.ev_ways.specs.Best.{IsBetter}
use Rattle.ev_ways.proofs.choice.consider_all.Given as goal

abbrev pub invariant-loop-node : goal.invariant-loop-node
invariant-loop-node l =
    IsBetter (IsOneOf l.nodes l.node-index) (λ z. IsIn z l.nodes) l.distance l.fn.best l.best_now
