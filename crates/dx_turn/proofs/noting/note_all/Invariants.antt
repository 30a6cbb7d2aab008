use Rattle.std.proofs.Common.{take}
use Rattle.dx_step.specs.Said.{nodes_of}
use Rattle.dx_step.specs.Turns.{note_all}
use Rattle.dx_turn.specs.Turning.{HasTurned}
use Rattle.dx_turn.proofs.noting.note_all.Given as goal

abbrev pub invariant-loop-number : goal.invariant-loop-number
invariant-loop-number l =
    HasTurned l.ground
    (note_all l.ground.graph.now (nodes_of l.ground.graph.now (take l.number-index l.upsets)))
    l.initial.told l.told
