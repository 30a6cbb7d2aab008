use Rattle.std.proofs.Common.{◌≡◌, ◌∙◌, ap, Bool, length, take, drop, arith, ◌≤◌}
use Rattle.std.specs.List.{prefix_len}
use Rattle.std.proofs.lemmas.List.Sums.{prefix_len-le-length}
use Rattle.ev_join.specs.declared.table.Row.{Row}
use Rattle.ev_join.specs.Order.{is_begun, placing}
use Rattle.ev_join.specs.Tables.{TableValue, bound_values}
use Rattle.ev_join.proofs.Agreeing.{before_fails, begun_parted, parted_agreeing, range_is}
use Rattle.ev_join.proofs.rows.rows_at.Goals as goal

pub split_at-requires-2 : goal.split_at-requires-2
split_at-requires-2 c =
    let k = bound_values c.args.columns.now c.args.binding.now in
    let test : Row → Bool = λ r. is_begun (placing r.values k) in
    omega (arith, c.begun_len-count.ensures, prefix_len-le-length test c.split_at.result.1.now)

pub returns : goal.returns
returns c =
    let t : TableValue = record { columns = c.args.columns.now; rows = c.args.rows.now } in
    let k = bound_values c.args.columns.now c.args.binding.now in
    let first = c.first_from-first.result in
    let p = c.first_from-first.ensures in
    let n = c.begun_len-count.result in
    let behind : c.split_at.result.1.now ≡ drop first c.args.rows.now = c.split_at.ensures.back in
    let test : Row → Bool = λ r. is_begun (placing r.values k) in
    let e : n ≡ prefix_len test (drop first c.args.rows.now) =
    c.begun_len-count.ensures ∙ ap (prefix_len test) behind in
    let m = begun_parted test (drop first c.args.rows.now) n e
    (parted_agreeing t c.requires k first p.within p.from) in
    let short : n ≤ length (drop first c.args.rows.now) =
    omega (arith, e, prefix_len-le-length test (drop first c.args.rows.now)) in
    c.split_at-2.ensures.front ∙ ap (take n) behind
    ∙ range_is t c.requires k first n p.within short
    (before_fails t c.requires k first p.before) m.0 m.1
