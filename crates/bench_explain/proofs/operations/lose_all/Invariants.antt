use Rattle.dx_live.specs.Live.{IsLiveOf}
use Rattle.bench_explain.proofs.operations.lose_all.Given as goal

abbrev pub invariant-loop-report : goal.invariant-loop-report
invariant-loop-report g l = IsLiveOf l.graph l.live
