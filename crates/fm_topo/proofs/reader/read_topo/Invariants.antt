use Rattle.std.proofs.Common.{length}
use Rattle.fm_topo.specs.Reading.{IsAt}
use Rattle.fm_topo.proofs.reader.read_topo.Given as goal

abbrev pub invariant-loop-found : goal.invariant-loop-found
invariant-loop-found l = IsAt l.text l.number l.rest l.found.entries

abbrev pub decreases-loop-found : goal.decreases-loop-found
decreases-loop-found l = length l.rest
