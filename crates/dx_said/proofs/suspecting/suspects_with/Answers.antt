use Rattle.std.proofs.Common.{arith}
use Rattle.dx_said.proofs.Pushing.{suspects_more}
use Rattle.dx_said.proofs.suspecting.suspects_with.Goals as goal

pub loop-at-preserved : goal.loop-at-preserved
loop-at-preserved c =
    suspects_more c.args.graph.now c.args.numbers.now c.args.certainties.now c.loop-at.at
    c.loop-at.suspects.items _ _ (omega arith) (omega (arith, c.requires.many)) c.requires.below
    c.loop-at.invariant (rw c.nodes-nodes.ensures.nodes at c.in_ok-push_suspect.ensures)
