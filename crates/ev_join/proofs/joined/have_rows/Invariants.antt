use Rattle.std.proofs.Common.{◌≡◌, ◌<◌, ℕ, length, slice_get, Some}
use Rattle.ev_join.specs.Tables.{TableValue}
use Rattle.ev_join.proofs.joined.have_rows.Given as goal

-- each table so far has a row
abbrev pub invariant-tables : goal.invariant-tables
invariant-tables l =
    (j : ℕ) (t : TableValue) → j < l.table-index → slice_get l.tables j ≡ Some t → 0 < length t.rows
