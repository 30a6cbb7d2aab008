use Rattle.dx_explain.specs.Explaining.{set_of, AreMembers}
use Rattle.fm_explain.proofs.explained.members_of.Given as goal

abbrev pub invariant-loop-node : goal.invariant-loop-node
invariant-loop-node l = AreMembers (set_of l.room) l.node l.list.items
