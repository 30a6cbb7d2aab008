use Rattle.ev_ways.proofs.Clears.{arrow_clear}
use Rattle.ev_ways.proofs.clearing.clear_arrow.Goals as goal

pub returns-then-are_marked : goal.returns-then-are_marked
returns-then-are_marked c = record {
  done = arrow_clear c.args.links.now.causes.now c.args.links.now.effects.now c.args.arrow
      c.args.cleared.now c.args.done.now c.mark.new.marks
      c.requires.clear (rw (← c.row_of.ensures) (c.are_marked.ensures c.if-are_marked.true))
      c.requires.done c.mark.ensures;
}
