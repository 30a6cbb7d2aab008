use Rattle.ev_ways.specs.Clearing.{AreClear, LeadClear}
use Rattle.ev_ways.proofs.clearing.settle.Given as goal

abbrev pub invariant-loop-arrow : goal.invariant-loop-arrow
invariant-loop-arrow l =
    record {
      done : LeadClear l.links.causes.now l.links.effects.now l.done;
      clear : AreClear
          l.links.causes.now l.links.effects.now l.cleared;
    }
