use Rattle.std.proofs.Common.{◌≡◌, ◌+◌, ◌*◌, ◌≤◌, drop, sum}
use Rattle.dx_said.proofs.certainty.total_of.Given as goal

abbrev pub invariant-loop-rate : goal.invariant-loop-rate
invariant-loop-rate l =
    (l.total + sum (drop l.rate-index l.rates) ≡ sum l.rates)
    × (l.total ≤ l.rate-index * 4294967295)
