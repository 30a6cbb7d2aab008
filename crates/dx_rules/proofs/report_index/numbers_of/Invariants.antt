-- The first nodes that are reports have their numbers.
use Rattle.dx_rules.specs.ReportIndex.{IndexesFirst}
use Rattle.dx_rules.proofs.report_index.numbers_of.Given as goal

abbrev pub invariant-nodes : goal.invariant-nodes
invariant-nodes l = IndexesFirst l.nodes l.at l.numbers.entries
