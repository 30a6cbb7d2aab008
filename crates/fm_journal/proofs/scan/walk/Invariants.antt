use Rattle.std.proofs.Common.{◌-◌}
use Rattle.fm_journal.proofs.Walks.{Walks}
use Rattle.fm_journal.proofs.scan.walk.Given as goal

abbrev pub invariant-records : goal.invariant-records
invariant-records g l =
    Walks g.D.Disk l.fn.disk l.disk l.piece l.first l.size l.at l.count

abbrev pub decreases-records : goal.decreases-records
decreases-records g l = l.size - l.at
