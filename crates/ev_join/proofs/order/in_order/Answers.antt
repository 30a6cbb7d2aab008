use Rattle.std.proofs.Common.{rules, subst, sym, List, ℕ}
use Rattle.std.specs.Ordering.{nat_cmp, is_lt}
use Rattle.std.specs.Cmp.Lexicographic.{slice_cmp, nat_list_cmp_total}
use Rattle.std.proofs.lemmas.List.Sorted.{answers_always, ranks_by}
use Rattle.ev_join.specs.Candidates.{AreInOrder}
use Rattle.ev_join.proofs.Sorted.{sorted_bindings}
use Rattle.ev_join.proofs.order.in_order.Goals as goal

pub returns : goal.returns
returns c =
    subst (AreInOrder c.args.bindings) (sym c.new.ensures)
    (sorted_bindings c.args.bindings c.sort_by.new.self.items
    (search rules)
    (c.in_ok-sort_by.ensures.sorted
    (λ (a b : List ℕ). is_lt (slice_cmp nat_cmp a b))
    (ranks_by nat_list_cmp_total (λ (b : List ℕ). b))
    (answers_always _ _ _ (λ f a r g k. search rules))))
