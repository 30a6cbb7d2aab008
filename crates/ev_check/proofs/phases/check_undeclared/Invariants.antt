use Rattle.ev_check.specs.Faults.{IsClean, finds_undeclared}
use Rattle.ev_check.proofs.phases.check_undeclared.Given as goal

abbrev pub invariant-loop-statement : goal.invariant-loop-statement
invariant-loop-statement l = IsClean (finds_undeclared l.statements) l.statements l.statement-index
