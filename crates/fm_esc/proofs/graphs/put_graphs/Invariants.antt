-- The rule files before the place that is reached come to graphs, whose text was appended.
use Rattle.fm_esc.proofs.Putting.{PutUpTo}
use Rattle.fm_esc.proofs.graphs.put_graphs.Given as goal

abbrev pub invariant-files : goal.invariant-files
invariant-files l = PutUpTo l.form l.topo l.files l.number l.initial.out.items l.out.items
