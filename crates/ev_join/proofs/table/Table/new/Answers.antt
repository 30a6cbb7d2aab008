use Rattle.std.proofs.Common.{rules}
use Rattle.std.specs.Ordering.{nat_cmp, is_lt}
use Rattle.std.specs.Cmp.Lexicographic.{slice_cmp, nat_list_cmp_total}
use Rattle.std.proofs.lemmas.List.Sorted.{answers_always, ranks_by}
use Rattle.ev_join.specs.declared.table.Row.{Row}
use Rattle.ev_join.proofs.Sorted.{items_in_order}
use Rattle.ev_join.proofs.table.Table.new.Goals as goal

pub invariant_of-table : goal.invariant_of-table
invariant_of-table c = record {
  rising = c.requires;
  order = items_in_order (λ (r : Row). r.values) _
      (c.in_ok-sort_by.ensures.sorted
      (λ (a b : Row). is_lt (slice_cmp nat_cmp a.values b.values))
      (ranks_by nat_list_cmp_total (λ (r : Row). r.values))
      (answers_always _ _ _ (λ f a r g k. search rules)));
}
