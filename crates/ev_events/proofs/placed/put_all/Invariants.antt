-- The names at the first paths are kept.
use Rattle.std.proofs.Common.{◌≡◌, Some, take, if◌then◌else◌}
use Rattle.fm_name.specs.declared.events.EventName.{EventName}
use Rattle.ev_events.specs.Placed.{is_name_at, number_of_name}
use Rattle.ev_events.proofs.placed.put_all.Given as goal

abbrev pub invariant-ats : goal.invariant-ats
invariant-ats l = (q : EventName) → number_of_name l.found.entries q
    ≡ (if is_name_at l.topo l.declared (take l.at-index l.ats) q then Some l.number
    else number_of_name l.initial.found.entries q)
