use Rattle.std.proofs.Common.{◌-◌}
use Rattle.fm_payloads.proofs.Progress.{HasRead}
use Rattle.fm_payloads.proofs.reading.read_payloads.Given as goal

abbrev pub invariant-payloads : goal.invariant-payloads
invariant-payloads g l =
    HasRead g.D.Disk g.R.PayloadReader.took g.R.PayloadReader.same_rule l.fn.journal l.journal
    l.fn.reader l.reader l.piece l.place

abbrev pub decreases-payloads : goal.decreases-payloads
decreases-payloads g l = l.fn.journal.end - l.place
