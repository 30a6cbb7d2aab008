use Rattle.std.proofs.Common.{ℕ, ◌<◌, get_or}
use Rattle.ev_incidence.proofs.ranks.zero_at.Given as goal

abbrev pub invariant-loop-at : goal.invariant-loop-at
invariant-loop-at l = (k : ℕ) → k < l.at → 0 < get_or l.values k 0
