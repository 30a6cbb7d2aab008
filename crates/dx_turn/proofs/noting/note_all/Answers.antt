use Rattle.std.proofs.Common.{refl}
use Rattle.dx_turn.proofs.Notes.{notes_more}
use Rattle.dx_turn.proofs.noting.note_all.Goals as goal

pub loop-number-init : goal.loop-number-init
loop-number-init c = record { turn = λ next cs. refl; told = c.requires }

pub loop-number-preserved : goal.loop-number-preserved
loop-number-preserved c =
    notes_more c.args.ground.now c.args.upsets.now c.loop-number.number-index
    c.args.told.now c.loop-number.told c.note_node.new.told c.loop-number-test.true
    c.loop-number.invariant c.in_ok-note_node.ensures
