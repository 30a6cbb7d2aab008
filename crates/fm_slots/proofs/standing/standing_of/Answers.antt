-- What is read of the first bytes stands on the disk.
use Rattle.std.proofs.Common.{refl, sym, ◌∙◌, arith}
use Rattle.fm_slots.proofs.Heads.{in_head, gate_is, gate_closed}
use Rattle.fm_slots.proofs.standing.standing_of.Goals as goal

pub returns-then-head-ne-OPEN : goal.returns-then-head-ne-OPEN
returns-then-head-ne-OPEN c = λ bytes long is.
    gate_closed bytes _ (gate_is bytes c.args.head.now _ is (omega arith) refl)
    c.if-head-ne-OPEN.true

pub returns : goal.returns
returns c = λ bytes long is.
    c.standing_at.ensures bytes long
    (gate_is bytes c.args.head.now 1 is (omega arith) c.if-head-ne-OPEN.false)
    (in_head bytes c.args.head.now 1 8 is (omega arith)
    ∙ sym (c.sequence_spelled.ensures ∙ c.copy_from_slice.ensures.after))
    (in_head bytes c.args.head.now 9 4 is (omega arith)
    ∙ sym (c.count_spelled.ensures ∙ c.copy_from_slice-2.ensures.after))
