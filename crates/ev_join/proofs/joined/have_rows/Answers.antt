use Rattle.std.proofs.Common.{◌≡◌, ◌≤◌, ◌∙◌, ap, sym, Some, length, true, false, slice_get}
use Rattle.std.proofs.Common.{rules, arith}
use Rattle.std.proofs.lemmas.Option.{slice_get-get_or}
use Rattle.ev_join.proofs.Collecting.{rows_missing, rows_more, rows_of_all}
use Rattle.ev_join.proofs.joined.have_rows.Goals as goal

pub returns-then-not-has_row : goal.returns-then-not-has_row
returns-then-not-has_row c =
    let tables = c.args.tables.now in
    let i = c.tables.table-index in
    let t = c.table-item.result in
    let stands : slice_get tables i ≡ Some t =
    slice_get-get_or tables i t c.tables-test.true ∙ ap Some (sym c.table-item.is) in
    let no : c.has_row.result ≡ false = search rules in
    rows_missing tables i t stands (sym c.has_row.ensures ∙ no)

pub tables-preserved : goal.tables-preserved
tables-preserved c =
    let tables = c.args.tables.now in
    let i = c.tables.table-index in
    let t = c.table-item.result in
    let stands : slice_get tables i ≡ Some t =
    slice_get-get_or tables i t c.tables-test.true ∙ ap Some (sym c.table-item.is) in
    let so : c.has_row.result ≡ true = search rules in
    rows_more tables i t stands (sym c.has_row.ensures ∙ so) c.tables.invariant

pub returns : goal.returns
returns c =
    let all : length c.args.tables.now ≤ c.tables.table-index = omega arith in
    rows_of_all c.args.tables.now c.tables.table-index all c.tables.invariant
