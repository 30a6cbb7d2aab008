use Rattle.std.proofs.Common.{◌≡◌, ℕ, length, []}
use Rattle.ev_ways.specs.Lists.{row}
use Rattle.ev_ways.proofs.index.empty_rows.Given as goal

abbrev pub invariant-loop : goal.invariant-loop
invariant-loop l = record {
  nodes : length l.uses.items ≡ l.counter;
  empty : (x : ℕ)
      → row l.uses.items x ≡ [];
}
