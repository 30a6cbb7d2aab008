-- The log was only read, up to the place, and the modules say what was read.
use Rattle.std.proofs.Common.{◌+◌, ◌-◌, length}
use Rattle.fm_looks.specs.FaultLog.{AreSameModules, TookRecords}
use Rattle.fm_payloads.proofs.Progress.{HasRead}
use Rattle.fm_looks.proofs.fault_log.retrace_log.Given as goal

abbrev pub invariant-payloads : goal.invariant-payloads
invariant-payloads g l =
    HasRead g.D.Disk (TookRecords g.M.Module l.base l.entries l.fn.modules.items)
    (AreSameModules g.M.Module (l.base + length l.entries)) l.fn.journal l.journal
    l.fn.modules.items l.modules.items l.piece l.place

abbrev pub decreases-payloads : goal.decreases-payloads
decreases-payloads g l = l.fn.journal.end - l.place
