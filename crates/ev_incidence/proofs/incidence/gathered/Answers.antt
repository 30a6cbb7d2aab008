use Rattle.ev_incidence.proofs.Occurrences.{transpose_all}
use Rattle.ev_incidence.proofs.incidence.gathered.Goals as goal

pub returns-clause-index : goal.returns-clause-index
returns-clause-index c =
    rw (c.in_ok-index.ensures)
    (transpose_all c.args.rows.now c.note_all.new.lists c.in_ok-note_all.ensures)
