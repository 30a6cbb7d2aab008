use Rattle.ev_ways.specs.Lists.{Notes}
use Rattle.ev_ways.proofs.index.note.Given as goal

abbrev pub invariant-loop-node : goal.invariant-loop-node
invariant-loop-node l = Notes l.members l.arrow l.node-index l.initial.uses l.uses
