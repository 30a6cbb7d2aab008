use Rattle.std.proofs.Common.{◌≡◌, take, slice_get, filter_map}
use Rattle.ev_check.proofs.cycles.named.Given as goal

abbrev pub invariant-loop-number : goal.invariant-loop-number
invariant-loop-number l =
    l.members.items ≡ filter_map (slice_get l.events) (take l.number-index l.numbers)
