use Rattle.std.proofs.Common.{◌≡◌, ◌<◌, ℕ, true, length}
use Rattle.ev_incidence.specs.Sets.{has_mark}
use Rattle.dx_sets.proofs.sets.mark_each.Given as goal

abbrev pub invariant-loop-node : goal.invariant-loop-node
invariant-loop-node l = record {
  size : length l.marks ≡ length l.fn.marks;
  each : (e : ℕ) → e < l.node → has_mark l.marks e ≡ true;
}
