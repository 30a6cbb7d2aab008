-- The open cases are those of the hands so far.
use Rattle.std.proofs.Common.{◌≡◌, flat_map, map, take}
use Rattle.fm_core.specs.Hands.{shown}
use Rattle.fm_conclude.specs.DrainedSummary.{open_of_shown}
use Rattle.dx_engine.specs.Diagnosers.{diagnosers}
use Rattle.fm_conclude.proofs.open_cases.open_reports.Given as goal

abbrev pub invariant-hands : goal.invariant-hands
invariant-hands l =
    l.cases.items ≡ flat_map open_of_shown (map (shown diagnosers) (take l.hand-index l.fn.hands))
