use Rattle.dx_explain.specs.Explaining.{FitsGraph}
use Rattle.bench_explain.proofs.operations.explain.Given as goal

abbrev pub invariant-loop : goal.invariant-loop
invariant-loop l = FitsGraph l.graph l.room
