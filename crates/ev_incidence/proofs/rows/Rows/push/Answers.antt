use Rattle.std.proofs.Common.{arith, ◌+◌, length}
use Rattle.ev_incidence.proofs.Pieces.{push_pieces}
use Rattle.ev_incidence.proofs.rows.Rows.push.Goals as goal

pub returns-in-Ok-clause-ok : goal.returns-in-Ok-clause-ok
returns-in-Ok-clause-ok c =
    let inside = c.self.inside in
    rw (c.in_ok-extend_from_slice.ensures.items, c.in-Ok.ensures.items, ← c.self.view_is)
    (push_pieces inside.items.items c.args.row.now inside.bounds.items
    (c.len-count.result + length c.args.row.now) c.self.invariant
    (omega (arith, c.len-count.ensures, inside.items.ok.0)))
