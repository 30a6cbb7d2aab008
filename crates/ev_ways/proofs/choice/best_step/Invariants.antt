use Rattle.std.proofs.Common.{None}
use Rattle.ev_ways.specs.Ways.{Leads}
use Rattle.ev_ways.specs.Search.{IsEffectOf}
use Rattle.ev_ways.specs.Best.{IsBetter}
use Rattle.ev_ways.proofs.choice.best_step.Given as goal

abbrev pub invariant-loop-arrow : goal.invariant-loop-arrow
invariant-loop-arrow l =
    IsBetter (IsEffectOf l.links.effects.now l.arrows l.arrow-index)
    (Leads l.links.causes.now l.links.effects.now l.node) l.distance None l.best
