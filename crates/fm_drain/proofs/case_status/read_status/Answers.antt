-- The records were read, and their words are rows.
use Rattle.std.proofs.Common.{rules}
use Rattle.fm_drain.proofs.RecordRows.{book_status}
use Rattle.fm_drain.proofs.case_status.read_status.Goals as goal

pub returns-in_err-records-clause-undamaged : goal.returns-in_err-records-clause-undamaged
returns-in_err-records-clause-undamaged g c = λ fresh k st.
    let undamaged = c.in_err-records.ensures.undamaged fresh k st in
    search rules

pub returns-clause-status : goal.returns-clause-status
returns-clause-status g c = λ fresh k st.
    book_status g.D.Disk fresh c.args.store.now k c.in_ok-records.records.items
    c.in_ok-status_from.field-0 st (c.in_ok-records.ensures.records fresh k st)
    c.in_ok-status_from.ensures
