use Rattle.std.proofs.Common.{◌≡◌, ◌++◌, ◌∙◌, sym, ap, true, not, rules, arith}
use Rattle.std.specs.Prelude.{option_to_list}
use Rattle.ev_join.specs.Tables.{TableValue, bound_values}
use Rattle.ev_join.proofs.Nearby.{first_here, first_of_all}
use Rattle.ev_join.proofs.rows.begin_at.Goals as goal

pub returns-then-at-eq0 : goal.returns-then-at-eq0
returns-then-at-eq0 c =
    let t : TableValue = record { columns = c.args.columns.now; rows = c.args.rows.now } in
    let k = bound_values c.args.columns.now c.args.front.now ++ option_to_list c.args.last in
    let so : c.is_not_before.result ≡ true = search rules in
    λ answer. first_of_all t c.requires k c.args.at c.index-rows-at.result c.if-at-eq0.true
    (omega arith) c.index-rows-at.is (sym c.is_not_before.ensures ∙ so)

pub returns : goal.returns
returns c =
    let t : TableValue = record { columns = c.args.columns.now; rows = c.args.rows.now } in
    let k = bound_values c.args.columns.now c.args.front.now ++ option_to_list c.args.last in
    let so : c.is_not_before.result ≡ true = search rules in
    λ answer. first_here t c.requires k c.args.at c.index-rows-at.result c.index-rows-at-2.result
    c.if-at-eq0.false (omega arith) c.index-rows-at.is c.index-rows-at-2.is
    (sym c.is_not_before.ensures ∙ so) (ap not (sym c.is_not_before-2.ensures) ∙ answer)
