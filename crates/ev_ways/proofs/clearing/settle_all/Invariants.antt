use Rattle.ev_ways.specs.Clearing.{AreClear, LeadClear}
use Rattle.ev_ways.proofs.clearing.settle_all.Given as goal

abbrev pub invariant-loop-turn : goal.invariant-loop-turn
invariant-loop-turn l =
    record {
      done : LeadClear l.links.causes.now l.links.effects.now l.done;
      clear : AreClear
          l.links.causes.now l.links.effects.now l.cleared;
    }
