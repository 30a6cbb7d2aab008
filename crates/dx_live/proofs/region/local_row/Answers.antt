use Rattle.dx_live.proofs.Locals.{row_none, row_found, row_missed}
use Rattle.dx_live.proofs.region.local_row.Goals as goal
use Rattle.dx_live.proofs.region.local_row.Goals.{in-Some+in_ok-push-in-Some, in-None}

pub loop-member-init : goal.loop-member-init
loop-member-init c = rw c.clear.ensures.items (row_none c.args.nodes.now)

pub loop-member-preserved : goal.loop-member-preserved
loop-member-preserved c =
    elim c.match-place_noted.branch [
      | in-Some+in_ok-push-in-Some w ↦ rw (w.row-is, w.in_ok-push-in-Some.ensures.items) (row_found
          c.args.nodes.now c.args.members.now c.loop-member.row.items c.loop-member.member-index
          c.loop-member-test.true c.loop-member.invariant w.in-Some.at w.in-Some.ensures.found.0
          w.in-Some.ensures.found.1)
      | in-None w ↦ rw w.row-is (row_missed c.args.nodes.now c.args.members.now
          c.loop-member.row.items c.loop-member.member-index c.loop-member-test.true
          c.loop-member.invariant (c.place_noted.ensures.none w.in-None.is))
    ]
