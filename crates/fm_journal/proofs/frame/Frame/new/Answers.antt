-- The pieces that were pushed are the frame of the payload.
use Rattle.std.proofs.Common.{arith}
use Rattle.fm_journal.proofs.Framing.{is_framed, framed_pieces}
use Rattle.fm_journal.proofs.frame.Frame.new.Goals as goal

pub invariant_of-result : goal.invariant_of-result
invariant_of-result c =
    is_framed _ c.args.payload.now
    (framed_pieces _ _ _ _ _ _ c.in_ok-body.ensures.items c.in_ok-extend_from_slice.ensures.items
    c.in_ok-extend_from_slice-2.ensures.items c.in_ok-push.ensures.items c.write_u32.ensures)
    (omega arith)
