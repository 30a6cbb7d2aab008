use Rattle.std.proofs.Common.{◌≡◌, ℕ, length, []}
use Rattle.std.specs.List.{sum_by}
use Rattle.ev_incidence.specs.Table.{row_at}
use Rattle.ev_incidence.proofs.incidence.empty_lists.Given as goal

abbrev pub invariant-loop : goal.invariant-loop
invariant-loop l = record {
  count : length l.lists.items ≡ l.counter;
  empty : (e : ℕ) → row_at l.lists.items e ≡ [];
  total : sum_by length l.lists.items ≡ 0;
}
