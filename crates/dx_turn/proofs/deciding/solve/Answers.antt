use Rattle.std.proofs.lemmas.Result.{on_ok_weaker}
use Rattle.dx_case.specs.Cases.{open_of}
use Rattle.dx_step.specs.Said.{nodes_of}
use Rattle.dx_turn.proofs.Turned.{solved_by_word}
use Rattle.dx_turn.proofs.deciding.solve.Goals as goal

pub returns : goal.returns
returns c =
    let d = c.args.ground.now in
    on_ok_weaker c.say_solved.result
    (λ e. solved_by_word d c.args.told.now c.say_solved.new.self (open_of c.args.case.now)
    (nodes_of d.graph.now c.args.faults.now) c.in_ok-suspects.suspects.items c.in_ok-word.word
    c.requires.ground c.requires.told c.in_ok-suspects.ensures c.in_ok-word.ensures e)
    c.say_solved.ensures
