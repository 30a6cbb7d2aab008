use Rattle.std.proofs.Common.{◌≡◌, length}
use Rattle.ev_join.specs.Order.{placing}
use Rattle.ev_join.specs.Tables.{bound_values}
use Rattle.ev_join.proofs.rows.compare_row.Given as goal

-- what is left of the row stands to what is left of the columns as the whole row does to them all
abbrev pub invariant-columns : goal.invariant-columns
invariant-columns l =
    placing l.values (bound_values l.columns l.front)
    ≡ placing l.fn.values (bound_values l.fn.columns l.front)

abbrev pub decreases-columns : goal.decreases-columns
decreases-columns l = length l.columns
