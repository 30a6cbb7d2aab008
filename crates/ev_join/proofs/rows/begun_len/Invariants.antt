use Rattle.std.proofs.Common.{◌≡◌, ◌+◌, drop}
use Rattle.std.specs.List.{prefix_len}
use Rattle.ev_join.specs.declared.table.Row.{Row}
use Rattle.ev_join.specs.Order.{is_begun, placing}
use Rattle.ev_join.specs.Tables.{bound_values}
use Rattle.ev_join.proofs.rows.begun_len.Given as goal

-- those behind the first ones, which agree, come to the whole with these
abbrev pub invariant-rows : goal.invariant-rows
invariant-rows l =
    let agrees = λ (r : Row). is_begun (placing r.values (bound_values l.columns l.binding)) in
    prefix_len agrees (drop l.at l.rows) + l.at ≡ prefix_len agrees l.rows
