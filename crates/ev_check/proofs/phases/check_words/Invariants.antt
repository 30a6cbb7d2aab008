use Rattle.ev_check.specs.Faults.{IsClean, in_itself}
use Rattle.ev_check.proofs.phases.check_words.Given as goal

abbrev pub invariant-loop-statement : goal.invariant-loop-statement
invariant-loop-statement l = IsClean in_itself l.statements l.statement-index
