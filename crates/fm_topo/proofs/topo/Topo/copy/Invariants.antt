use Rattle.std.proofs.Common.{◌≡◌, take}
use Rattle.fm_topo.proofs.topo.Topo.copy.Given as goal

abbrev pub invariant-loop-path : goal.invariant-loop-path
invariant-loop-path l = l.places.items ≡ take l.path-index l.path-items
