use Rattle.dx_case.proofs.Starting.{one_more, none_more, fresh_copy}
use Rattle.dx_case.proofs.starts.Starts.keep.Goals as goal

pub returns-in_err-insert : goal.returns-in_err-insert
returns-in_err-insert c = λ g h is.
    none_more g c.make_room.new.self _ c.in_err-insert.ensures.err (c.make_room.ensures g h)

pub returns : goal.returns
returns c = λ g h is.
    one_more g c.make_room.new.self _ c.args.node c.in_ok-kept.kept c.in_ok-insert.ensures.updates
    (fresh_copy g c.args.node c.args.fresh.now c.in_ok-kept.kept c.in_ok-kept.ensures.candidates
    c.in_ok-kept.ensures.reports is)
    (c.make_room.ensures g h)
