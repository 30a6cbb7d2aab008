use Rattle.std.proofs.Common.{◌≡◌, ◌++◌, drop, map}
use Rattle.dx_step.specs.Repairs.{with_mark}
use Rattle.dx_said.proofs.marking.mark_all.Given as goal

abbrev pub invariant-loop-suspect : goal.invariant-loop-suspect
invariant-loop-suspect g l =
    l.marked.items
    ++ map (with_mark (g.C.Choice.chosen l.choice l.word) l.mark) (drop l.suspect-index l.suspects)
    ≡ map (with_mark (g.C.Choice.chosen l.choice l.word) l.mark) l.suspects
