use Rattle.dx_case.specs.Cases.{IsCaseOf}
use Rattle.test_graph.proofs.drawn_cases.live.Given as goal

abbrev pub invariant-steps : goal.invariant-steps
invariant-steps l = IsCaseOf l.graph l.case
