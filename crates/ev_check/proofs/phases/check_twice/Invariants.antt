use Rattle.std.proofs.Common.{◌≡◌, take}
use Rattle.ev_check.specs.Declarations.{events_in, engines_in, twice_after}
use Rattle.ev_check.specs.Faults.{IsClean}
use Rattle.ev_check.proofs.phases.check_twice.Given as goal

abbrev pub invariant-loop-statement : goal.invariant-loop-statement
invariant-loop-statement l = record {
  clean : IsClean twice_after l.statements l.statement-index;
  events : l.events ≡ events_in (take l.statement-index l.statements);
  engines : l.engines ≡ engines_in (take l.statement-index l.statements);
}
