-- The slots so far with those of the parts that are left are all.
use Rattle.std.proofs.Common.{◌≡◌, ◌++◌, drop, map}
use Rattle.ev_events.specs.Slots.{slot_of}
use Rattle.ev_events.proofs.slots.slots_of.Given as goal

abbrev pub invariant-loop-part : goal.invariant-loop-part
invariant-loop-part l = l.slots.items ++ map (slot_of l.parts) (drop l.part-index l.parts)
    ≡ map (slot_of l.parts) l.parts
