-- The reports to the small module, computed.
use Rattle.std.proofs.Common.{refl}
use Rattle.dx_explain.specs.Search.{some_below, every_below, numbers_below, some_set}
use Rattle.dx_explain.specs.Stories.{is_story, explains, comes_from}
use Rattle.dx_explain.specs.Cases.{waits, blamed}
use Rattle.dx_step.specs.Certainty.{certainties}
use Rattle.dx_step.specs.Turns.{decide, settle}
use Rattle.dx_step.specs.Reports.{declares, join, report}
use Rattle.dx_step.specs.Step.{turn}
use Rattle.dx_step.specs.Examples.{two_faults, fresh, after_first}
use Rattle.dx_observed.specs.SmallReports.{SmallReports}

pub small_reports : SmallReports
unfolding some_below every_below numbers_below some_set is_story explains comes_from waits blamed
    certainties decide settle declares join report turn two_faults fresh after_first
small_reports = record { numbers = refl; observed = refl; other = refl }
