-- The pieces that were put together are the frame of the payload.
use Rattle.std.proofs.Common.{arith}
use Rattle.fm_slots.proofs.Forces.{is_frame}
use Rattle.fm_slots.proofs.frame.SlotFrame.new.Goals as goal

pub invariant_of-result : goal.invariant_of-result
invariant_of-result c =
    is_frame _ _ _ _ c.args.payload.now c.args.sequence c.in_ok-body.ensures.items
    c.in_ok-extend_from_slice.ensures.items c.in_ok-extend_from_slice-2.ensures.items
    c.slot_head.ensures
    (record {
      positive = c.requires.positive;
      sequence_fits = c.requires.fits;
      short = omega (arith, c.if-payload.false);
    })
