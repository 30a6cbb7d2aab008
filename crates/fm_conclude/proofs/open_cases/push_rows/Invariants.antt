-- The rows so far stand behind what was there.
use Rattle.std.proofs.Common.{◌≡◌, ◌++◌, map, take}
use Rattle.fm_conclude.specs.DrainedSummary.{reports_by}
use Rattle.fm_conclude.proofs.open_cases.push_rows.Given as goal

abbrev pub invariant-rows : goal.invariant-rows
invariant-rows l = l.cases.items ≡ l.fn.cases.items ++ map reports_by (take l.row-index l.fn.rows)
