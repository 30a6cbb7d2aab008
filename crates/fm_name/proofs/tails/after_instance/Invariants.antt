use Rattle.std.proofs.Common.{◌≡◌, ◌<◌, ◌^◌, length, false}
use Rattle.fm_name.specs.Tail.{instance_rest}
use Rattle.fm_name.proofs.tails.after_instance.Given as goal

abbrev pub invariant-loop-rest : goal.invariant-loop-rest
invariant-loop-rest l = record {
  small : l.number < 2 ^ 32;
  same : instance_rest l.begun l.number l.rest ≡ instance_rest false 0 l.bytes;
}

abbrev pub decreases-loop-rest : goal.decreases-loop-rest
decreases-loop-rest l = length l.rest
