use Rattle.std.proofs.Common.{◌≤◌, sum, sym, ap, subst, arith}
use Rattle.dx_said.proofs.Summing.{shares_low}
use Rattle.dx_said.proofs.certainty.certainties.Goals as goal

pub sum_of-left-requires : goal.sum_of-left-requires
sum_of-left-requires c =
    subst (λ xs. sum xs ≤ 100) (sym c.deref.ensures.value)
    (shares_low c.args.rates.now c.total_of-total.result c.in_ok-shares.shares.items
    c.total_of-total.ensures c.in_ok-shares.ensures)

pub overflow_sub-left : goal.overflow_sub-left
overflow_sub-left c =
    let low = shares_low c.args.rates.now c.total_of-total.result c.in_ok-shares.shares.items
    c.total_of-total.ensures c.in_ok-shares.ensures in
    omega (arith, c.sum_of-left.ensures, ap sum c.deref.ensures.value)

pub add_to_first-requires : goal.add_to_first-requires
add_to_first-requires c =
    let low = shares_low c.args.rates.now c.total_of-total.result c.in_ok-shares.shares.items
    c.total_of-total.ensures c.in_ok-shares.ensures in
    omega (arith, c.sum_of-left.ensures, ap sum c.deref.ensures.value)
