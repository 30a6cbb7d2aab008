use Rattle.std.proofs.Common.{◌≡◌, ◌∙◌, sym, Bool, true, false, rules, arith}
use Rattle.ev_join.specs.declared.table.Row.{Row}
use Rattle.ev_join.specs.Order.{is_begun, placing}
use Rattle.ev_join.specs.Tables.{bound_values}
use Rattle.ev_join.proofs.Agreeing.{all_pass, one_passes, one_stops}
use Rattle.ev_join.proofs.rows.begun_len.Goals as goal

pub returns-then-not-is_begun : goal.returns-then-not-is_begun
returns-then-not-is_begun c =
    let agrees : Row → Bool =
    λ r. is_begun (placing r.values (bound_values c.args.columns.now c.args.binding.now)) in
    let no : c.is_begun.result ≡ false = search rules in
    one_stops agrees c.args.rows.now c.rows.at c.rows.invariant c.index-rows-at.result
    c.rows-test.true c.index-rows-at.is (sym c.is_begun.ensures ∙ no)

pub rows-preserved : goal.rows-preserved
rows-preserved c =
    let agrees : Row → Bool =
    λ r. is_begun (placing r.values (bound_values c.args.columns.now c.args.binding.now)) in
    let so : c.is_begun.result ≡ true = search rules in
    one_passes agrees c.args.rows.now c.rows.at c.rows.invariant c.index-rows-at.result
    c.rows-test.true c.index-rows-at.is (sym c.is_begun.ensures ∙ so)

pub returns : goal.returns
returns c =
    let agrees : Row → Bool =
    λ r. is_begun (placing r.values (bound_values c.args.columns.now c.args.binding.now)) in
    all_pass agrees c.args.rows.now c.rows.at c.rows.invariant c.rows-test.false
