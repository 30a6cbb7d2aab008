use Rattle.std.proofs.Common.{◌≡◌, ◌++◌, ◌∷◌, [], ◌==◌, true, false, not, length, sym, ap}
use Rattle.std.proofs.Common.{◌∙◌}
use Rattle.std.proofs.Common.{rules, arith, Some, slice_get}
use Rattle.std.specs.List.{list_any}
use Rattle.std.proofs.lemmas.Grind.{common_steps}
use Rattle.std.proofs.lemmas.Option.{slice_get-get_or}
use Rattle.ev_join.specs.declared.table.Row.{Row}
use Rattle.ev_join.specs.Order.{is_not_before}
use Rattle.ev_join.specs.Tables.{TableValue, bound_values}
use Rattle.ev_join.proofs.Ordering.{from_test}
use Rattle.ev_join.proofs.Seeking.{least_here, least_none, least_off}
use Rattle.ev_join.proofs.rows.least_value.Goals as goal

pub returns-then-not-has_column : goal.returns-then-not-has_column
returns-then-not-has_column c =
    let t : TableValue = record { columns = c.args.columns.now; rows = c.args.rows.now } in
    let off : list_any (λ k. k == length c.args.front.now) c.args.columns.now ≡ false =
    search rules in
    least_off t c.requires.table c.args.front.now c.args.value off c.requires.open

pub returns-then-at-rows : goal.returns-then-at-rows
returns-then-at-rows c =
    let t : TableValue = record { columns = c.args.columns.now; rows = c.args.rows.now } in
    let asked : list_any (λ k. k == length c.args.front.now) c.args.columns.now ≡ true =
    search rules in
    least_none t c.requires.table c.args.front.now c.args.value asked
    c.first_from-at.result (omega arith) c.first_from-at.ensures.before

pub returns : goal.returns
returns c =
    let t : TableValue = record { columns = c.args.columns.now; rows = c.args.rows.now } in
    let asked : list_any (λ k. k == length c.args.front.now) c.args.columns.now ≡ true =
    search rules in
    let k = bound_values c.args.columns.now c.args.front.now ++ c.args.value ∷ [] in
    let p = c.first_from-at.ensures in
    let at = c.first_from-at.result in
    let row = c.index-rows-at.result in
    let stands : slice_get c.args.rows.now at ≡ Some row =
    slice_get-get_or c.args.rows.now at row (omega arith) ∙ ap Some (sym c.index-rows-at.is) in
    let here : not (is_not_before row.values k) ≡ false =
    ap (λ (r : Row). not (is_not_before r.values k)) c.index-rows-at.is
    ∙ p.from at row (omega arith) (omega arith) in
    let yet : is_not_before row.values k ≡ true = grind (arith, common_steps, here) in
    rw c.number_behind.ensures
    (least_here t c.requires.table c.args.front.now c.args.value asked at row stands p.before
    (from_test row.values k yet))
