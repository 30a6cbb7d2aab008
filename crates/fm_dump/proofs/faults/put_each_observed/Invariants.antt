use Rattle.std.proofs.Common.{◌≡◌, ◌++◌, drop}
use Rattle.std.specs.Prelude.{flat_map}
use Rattle.fm_dump.specs.Faults.{observed_line}
use Rattle.fm_dump.proofs.faults.put_each_observed.Given as goal

abbrev pub invariant-events : goal.invariant-events
invariant-events l = l.out.items ++ flat_map observed_line (drop l.event-index l.events)
    ≡ l.initial.out.items ++ flat_map observed_line l.events
