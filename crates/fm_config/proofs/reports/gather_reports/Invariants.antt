-- The reports of the texts before the place that is reached.
use Rattle.std.proofs.Common.{take}
use Rattle.fm_config.specs.Reports.{AreGathered}
use Rattle.fm_config.proofs.reports.gather_reports.Given as goal

abbrev pub invariant-texts : goal.invariant-texts
invariant-texts l = AreGathered l.topo (take l.text-index l.texts) l.events.items
