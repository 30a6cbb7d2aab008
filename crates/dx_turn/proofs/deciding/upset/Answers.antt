use Rattle.std.proofs.lemmas.Result.{on_ok_weaker}
use Rattle.dx_case.specs.Cases.{open_of}
use Rattle.dx_step.specs.Said.{nodes_of}
use Rattle.dx_turn.proofs.Turned.{upset_said_noted}
use Rattle.dx_turn.proofs.deciding.upset.Goals as goal

pub returns-then-notes : goal.returns-then-notes
returns-then-notes c =
    let d = c.args.ground.now in
    on_ok_weaker c.note_all.result
    (λ k. upset_said_noted d c.args.told.now c.say.new.self c.note_all.new.told c.args.notes
    (open_of c.args.case.now) (nodes_of d.graph.now c.args.numbers.now)
    c.in_ok-suspects.suspects.items c.in_ok-word.word c.requires.ground c.requires.told
    c.if-notes.true c.in_ok-suspects.ensures c.in_ok-word.ensures c.in_ok-say.ensures k)
    c.note_all.ensures
