-- The names so far with the parts that are left are all names.
use Rattle.std.proofs.Common.{◌≡◌, drop}
use Rattle.ev_events.specs.Names.{with_parts}
use Rattle.ev_events.proofs.names.add_parts.Given as goal

abbrev pub invariant-loop-part : goal.invariant-loop-part
invariant-loop-part l =
    with_parts l.names (drop l.part-index l.parts) ≡ with_parts l.initial.names l.parts
