use Rattle.std.proofs.Common.{◌≡◌}
use Rattle.fm_topo.proofs.reader.topology_from.Given as goal

abbrev pub invariant-loop-key : goal.invariant-loop-key
invariant-loop-key l = l.places.items ≡ l.yielded
