use Rattle.std.proofs.Common.{◌≡◌, ◌<◌, ℕ, length, get_or}
use Rattle.dx_live.proofs.region.put_numbers.Given as goal

abbrev pub invariant-loop-place : goal.invariant-loop-place
invariant-loop-place l = record {
  size : length l.numbers ≡ l.count;
  each : (i : ℕ) → i < l.place → get_or l.numbers i 0 ≡ i;
}
