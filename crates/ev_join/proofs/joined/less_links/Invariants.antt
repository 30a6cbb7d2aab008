use Rattle.std.proofs.Common.{◌≡◌, ◌+◌, length, sum_by, take}
use Rattle.ev_join.specs.Tables.{TableValue, rows_at}
use Rattle.ev_join.proofs.joined.less_links.Given as goal

-- what the links in the tables so far leave
abbrev pub invariant-tables : goal.invariant-tables
invariant-tables l =
    l.left + sum_by (λ (t : TableValue). length (rows_at t l.binding)) (take l.table-index l.tables)
    ≡ l.limit
