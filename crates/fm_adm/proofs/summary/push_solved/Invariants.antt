use Rattle.std.proofs.Common.{◌≡◌, ◌++◌, drop, map}
use Rattle.std.specs.List.{filter}
use Rattle.fm_status.specs.Wanted.{is_solved}
use Rattle.fm_adm.specs.Summary.{solved_line}
use Rattle.fm_adm.proofs.summary.push_solved.Given as goal

abbrev pub invariant-rows : goal.invariant-rows
invariant-rows l =
    l.lines.items ++ map solved_line
    (filter (λ row. is_solved row.kind) (map (λ row. row.now) (drop l.row-index l.rows)))
    ≡ l.initial.lines.items ++ map solved_line
    (filter (λ row. is_solved row.kind) (map (λ row. row.now) l.rows))
