-- The first of the declared ones are kept, and no more than the limit.
use Rattle.std.proofs.Common.{◌≤◌, length, map}
use Rattle.std.specs.BTreeMap.{IsOrdered}
use Rattle.fm_name.specs.Events.{event_cmp}
use Rattle.ev_events.specs.Placed.{AreKept}
use Rattle.ev_events.proofs.placed.placed_of.Given as goal

abbrev pub invariant-declared : goal.invariant-declared
invariant-declared l = AreKept l.topo (map (λ d. d.now) l.declared) l.at l.found.entries
    × ((length l.found.entries ≤ l.limit) × IsOrdered event_cmp l.found)
