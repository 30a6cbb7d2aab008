-- Bytes are one slot at most, and so one slot of a pair is in force.
use Rattle.fm_slots.proofs.Forces.{same_slot, damaged_no_slot, same_in_force}
use Rattle.fm_slots.proofs.laws.slots_are_one.Goals as goal

pub returns-clause-one : goal.returns-clause-one
returns-clause-one c bytes s t one other = same_slot bytes s t one other

pub returns-clause-damaged : goal.returns-clause-damaged
returns-clause-damaged c bytes s damaged slot = damaged_no_slot bytes s damaged slot

pub returns-clause-in_force : goal.returns-clause-in_force
returns-clause-in_force c a b found other one two = same_in_force a b found other one two
