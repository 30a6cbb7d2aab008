-- The records were read, and of the book is told.
use Rattle.std.proofs.Common.{◌∙◌, rules}
use Rattle.fm_conclude.proofs.Conclusions.{count_of}
use Rattle.fm_conclude.proofs.concluding.read_conclusion.Goals as goal

pub returns-in_err-status-clause-undamaged : goal.returns-in_err-status-clause-undamaged
returns-in_err-status-clause-undamaged g c = λ fresh k stands.
    let undamaged = c.in_err-status.ensures.undamaged fresh k stands in
    search rules

pub returns-clause-tells : goal.returns-clause-tells
returns-clause-tells g c = λ fresh k stands done end.
    c.in_ok-conclusion_of.ensures k.book done
    (c.next_entry.ensures.value
    ∙ count_of g.D.Disk fresh c.read_status.new.store k
    (c.read_status.ensures.book fresh k stands))
    ((c.in_ok-status.ensures.status fresh k stands).drained_status end)
