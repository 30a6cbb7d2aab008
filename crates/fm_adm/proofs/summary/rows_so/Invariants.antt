use Rattle.std.proofs.Common.{◌≡◌, ◌+◌, ◌≤◌, drop, map}
use Rattle.fm_adm.specs.Summary.{rows_so}
use Rattle.fm_adm.proofs.summary.rows_so.Given as goal

abbrev pub invariant-rows : goal.invariant-rows
invariant-rows l =
    (l.count + rows_so l.standing (map (λ row. row.now) (drop l.row-index l.rows))
    ≡ rows_so l.standing (map (λ row. row.now) l.rows))
    × (l.count ≤ l.row-index)
