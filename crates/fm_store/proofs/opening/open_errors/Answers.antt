-- Why the active error journal was not read.
use Rattle.fm_store.proofs.OpenReads.{first_caused, second_caused}
use Rattle.fm_store.proofs.opening.open_errors.Goals as goal

pub returns-in-Err-clause-cause : goal.returns-in-Err-clause-cause
returns-in-Err-clause-cause g c =
    second_caused g.D.Disk c.args.known c.args.checkpoint.now c.args.err_a c.args.err_b
    c.in-Err.refused.disk c.in-Err.refused.fault c.store_fault.result c.if-checkpoint.true
    c.store_fault.ensures c.in-Err.ensures.cause

pub returns-in-Err-open_entries-clause-cause : goal.returns-in-Err-open_entries-clause-cause
returns-in-Err-open_entries-clause-cause g c =
    first_caused g.D.Disk c.args.known c.args.checkpoint.now c.args.err_b c.args.err_a
    c.in-Err-open_entries.refused.disk c.in-Err-open_entries.refused.fault
    c.store_fault-in-Err-open_entries.result c.if-checkpoint.false
    c.store_fault-in-Err-open_entries.ensures c.in-Err-open_entries.ensures.cause
