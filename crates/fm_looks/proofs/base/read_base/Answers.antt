-- What the slots say, and why they say nothing.
use Rattle.std.proofs.Common.{subst, sym}
use Rattle.fm_slots.specs.Pair.{found_slot}
use Rattle.fm_looks.specs.Bases.{SlotsCause}
use Rattle.fm_looks.proofs.BaseReads.{base_kept, base_caused, slots_caused}
use Rattle.fm_looks.proofs.base.read_base.Goals as goal

pub returns-in-Ok-clause-passes : goal.returns-in-Ok-clause-passes
returns-in-Ok-clause-passes g c =
    base_kept g.D.Disk c.args.slot_a.now c.args.slot_b.now c.newest.new.a c.newest.new.b
    c.args.known (found_slot c.in-Ok.found) c.in-Ok.ensures.found c.base_of.result
    c.base_of.ensures.says c.base_of.ensures.newest

pub returns-in-Ok-clause-cause : goal.returns-in-Ok-clause-cause
returns-in-Ok-clause-cause g c =
    base_caused g.D.Disk c.args.slot_a.now c.args.slot_b.now c.newest.new.a c.newest.new.b
    c.args.known (found_slot c.in-Ok.found) c.in-Ok.ensures.found c.base_of.result
    c.base_of.ensures.cause

pub returns-in-Err-clause-cause : goal.returns-in-Err-clause-cause
returns-in-Err-clause-cause g c =
    subst (SlotsCause g.D.Disk c.args.known c.args.slot_a.now c.args.slot_b.now c.newest.new.a
    c.newest.new.b) (sym c.slot_fault.ensures)
    (slots_caused g.D.Disk c.args.known c.args.slot_a.now c.args.slot_b.now c.newest.new.a
    c.newest.new.b c.in-Err.fault c.in-Err.ensures.cause)
