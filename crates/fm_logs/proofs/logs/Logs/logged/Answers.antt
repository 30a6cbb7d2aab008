-- The entries that the active error journal keeps.
use Rattle.std.proofs.Common.{rules}
use Rattle.fm_logs.proofs.LogReads.{are_logged, reads_logged, unread_logged}
use Rattle.fm_logs.proofs.logs.Logs.logged.Goals as goal

pub returns-clause-reads : goal.returns-clause-reads
returns-clause-reads g c =
    rw (← c.self.view_is)
    (reads_logged g.D.Disk _ c.read_log.new.journal c.read_log.ensures.same
    c.read_log.ensures.still)

pub returns-clause-found : goal.returns-clause-found
returns-clause-found g c =
    rw (← c.self.view_is)
    (are_logged g.D.Disk _ c.read_log.new.journal c.read_log.result (search rules)
    c.read_log.ensures.read c.read_log.ensures.count_kept)

pub returns-clause-refused : goal.returns-clause-refused
returns-clause-refused g c =
    rw (← c.self.view_is)
    (unread_logged g.D.Disk _ _ _ c.read_log.new.journal c.read_log.result c.active_name.ensures
    (search rules) c.read_log.ensures.cause)
