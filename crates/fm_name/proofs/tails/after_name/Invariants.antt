use Rattle.std.proofs.Common.{◌≡◌, ◌≤◌, length, true}
use Rattle.fm_name.specs.Tail.{name_rest}
use Rattle.fm_name.proofs.tails.after_name.Given as goal

abbrev pub invariant-loop-rest : goal.invariant-loop-rest
invariant-loop-rest l = record {
  shorter : length l.rest ≤ length l.bytes;
  same : name_rest (length l.bytes) true l.rest ≡ name_rest (length l.bytes) true l.bytes;
}

abbrev pub decreases-loop-rest : goal.decreases-loop-rest
decreases-loop-rest l = length l.rest
