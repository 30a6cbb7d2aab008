use Rattle.fm_explain.specs.Explained.{AreFound}
use Rattle.fm_explain.proofs.story.reports_named.Given as goal

abbrev pub invariant-names : goal.invariant-names
invariant-names l = AreFound l.graph.nodes l.names l.name-index l.list.items
