use Rattle.std.proofs.Common.{sym, ◌∙◌}
use Rattle.dx_explain.specs.Explaining.{set_of}
use Rattle.dx_explain.proofs.Listed.{members_push, members_past}
use Rattle.fm_explain.proofs.explained.members_of.Goals as goal
use Rattle.fm_explain.proofs.explained.members_of.Goals.{then-has+in_ok-push, else-has}

pub loop-node-preserved : goal.loop-node-preserved
loop-node-preserved c =
    let X = set_of c.args.room.now in
    elim c.if-has.branch [
      | then-has+in_ok-push w ↦ rw (w.list-is, w.in_ok-push.ensures.items) (members_push X
          c.loop-node.node c.loop-node.list.items (sym c.has.ensures ∙ w.if-has.true)
          c.loop-node.invariant)
      | else-has w ↦ rw w.list-is (members_past X c.loop-node.node c.loop-node.list.items
          (sym c.has.ensures ∙ w.if-has.false) c.loop-node.invariant)
    ]
