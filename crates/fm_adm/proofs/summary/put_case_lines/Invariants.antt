use Rattle.std.proofs.Common.{◌≡◌, ◌++◌, drop}
use Rattle.std.specs.Prelude.{flat_map}
use Rattle.fm_adm.specs.Summary.{case_line}
use Rattle.fm_adm.proofs.summary.put_case_lines.Given as goal

abbrev pub invariant-lines : goal.invariant-lines
invariant-lines l = l.out.items ++ flat_map case_line (drop l.line-index l.lines)
    ≡ l.initial.out.items ++ flat_map case_line l.lines
