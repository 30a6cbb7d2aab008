use Rattle.std.proofs.Common.{sym, arith, add-one, ◌+◌}
use Rattle.ev_incidence.specs.Table.{pieces}
use Rattle.ev_incidence.proofs.Pieces.{length_pieces, row_past, row_within}
use Rattle.ev_incidence.proofs.rows.row_in.Goals as goal

pub returns-then-at-bounds-clause-row : goal.returns-then-at-bounds-clause-row
returns-then-at-bounds-clause-row c =
    let items = c.args.items.now in
    let bounds = c.args.bounds.now in
    sym (row_past (pieces items bounds) c.args.at
    (omega (arith, length_pieces items bounds c.requires.some)))

pub returns-clause-row : goal.returns-clause-row
returns-clause-row c =
    let items = c.args.items.now in
    let bounds = c.args.bounds.now in
    rw (c.split_at-2.ensures.front, c.split_at.ensures.back)
    (sym (row_within items bounds c.args.at (c.args.at + 1) (add-one c.args.at) (omega arith)))
