use Rattle.std.proofs.Common.{◌++◌, not, rules}
use Rattle.std.specs.Prelude.{option_to_list}
use Rattle.std.proofs.lemmas.Fn.{always_returns_same}
use Rattle.ev_join.specs.declared.table.Row.{Row}
use Rattle.ev_join.specs.Order.{is_not_before}
use Rattle.ev_join.specs.Tables.{TableValue, bound_values}
use Rattle.ev_join.proofs.Seeking.{parted_before}
use Rattle.ev_join.proofs.rows.first_from.Goals as goal

pub returns : goal.returns
returns c =
    let t : TableValue = record { columns = c.args.columns.now; rows = c.args.rows.now } in
    let k = bound_values c.args.columns.now c.args.front.now ++ option_to_list c.args.last in
    let p = c.partition_point-at.ensures.partitioned (λ (r : Row). not (is_not_before r.values k))
    (always_returns_same _ _ _ (λ a r q f. search rules)) (parted_before t c.requires k) in
    record {
      within = c.partition_point-at.ensures.bound;
      before = p.0;
      from = p.1;
    }
