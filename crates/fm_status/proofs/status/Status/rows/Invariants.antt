use Rattle.std.proofs.Common.{◌≡◌, ◌++◌, map}
use Rattle.fm_status.specs.Rows.{placed_rows}
use Rattle.fm_status.proofs.status.Status.rows.Given as goal

abbrev pub invariant-places : goal.invariant-places
invariant-places l =
    map (λ row. row.now) l.rows.items ++ placed_rows l.self-inside.rows.items l.place-iterator
    ≡ l.fn.self
