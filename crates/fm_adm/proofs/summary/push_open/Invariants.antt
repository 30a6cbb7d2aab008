use Rattle.std.proofs.Common.{◌≡◌, ◌++◌, drop, map}
use Rattle.fm_adm.specs.Summary.{open_line}
use Rattle.fm_adm.proofs.summary.push_open.Given as goal

abbrev pub invariant-cases : goal.invariant-cases
invariant-cases l =
    l.lines.items ++ map open_line (drop l.one-index l.open_cases)
    ≡ l.initial.lines.items ++ map open_line l.open_cases
