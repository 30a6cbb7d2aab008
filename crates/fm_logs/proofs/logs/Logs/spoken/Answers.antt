-- The records that the fault log keeps, in order.
use Rattle.std.proofs.Common.{rules}
use Rattle.fm_logs.proofs.LogReads.{are_spoken, reads_spoken, unread_spoken}
use Rattle.fm_logs.proofs.logs.Logs.spoken.Goals as goal

pub returns-clause-reads : goal.returns-clause-reads
returns-clause-reads g c =
    rw (← c.self.view_is)
    (reads_spoken g.D.Disk _ c.read_records.new.flt c.read_records.ensures.same
    c.read_records.ensures.still)

pub returns-clause-found : goal.returns-clause-found
returns-clause-found g c =
    rw (← c.self.view_is)
    (are_spoken g.D.Disk _ c.read_records.new.flt c.read_records.result (search rules)
    c.read_records.ensures.read c.read_records.ensures.count_kept)

pub returns-clause-refused : goal.returns-clause-refused
returns-clause-refused g c =
    rw (← c.self.view_is)
    (unread_spoken g.D.Disk _ c.read_records.new.flt c.read_records.result (search rules)
    c.read_records.ensures.cause)
