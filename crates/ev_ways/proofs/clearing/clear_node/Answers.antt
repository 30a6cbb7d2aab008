use Rattle.ev_ways.proofs.Membership.{index_of}
use Rattle.ev_ways.proofs.Clears.{node_clear}
use Rattle.ev_ways.proofs.clearing.clear_node.Goals as goal

pub returns-then-are_marked : goal.returns-then-are_marked
returns-then-are_marked c = record {
  clear = node_clear c.args.links.now.causes.now c.args.links.now.effects.now
      c.args.links.now.uses.now c.args.node c.args.done.now c.args.cleared.now c.mark.new.marks
      (index_of c.args.links.now.uses_turn) c.requires.done
      (rw (← c.row_of.ensures) (c.are_marked.ensures c.if-are_marked.true)) c.requires.clear
      c.mark.ensures;
}
