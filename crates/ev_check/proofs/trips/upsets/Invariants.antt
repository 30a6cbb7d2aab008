use Rattle.ev_check.specs.Faults.{AreUpsetsTo}
use Rattle.ev_check.proofs.trips.upsets.Given as goal

abbrev pub invariant-loop-number : goal.invariant-loop-number
invariant-loop-number l = AreUpsetsTo l.events l.number l.starts.items
