use Rattle.dx_live.specs.Live.{IsLiveOf}
use Rattle.test_graph.proofs.live_sets.turns.Given as goal

abbrev pub invariant-changes : goal.invariant-changes
invariant-changes g l = IsLiveOf l.graph l.live
