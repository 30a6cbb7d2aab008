use Rattle.std.proofs.Common.{◌∙◌}
use Rattle.std.proofs.lemmas.Bool.{OnTrue_at}
use Rattle.dx_sets.proofs.Filling.{all_give}
use Rattle.dx_sets.proofs.start.count_givers.Goals as goal

pub returns-then-all : goal.returns-then-all
returns-then-all g c =
    c.count_uncut_gets.ensures
    ∙ all_give c.args.table.now (g.C.CutTest.is_cut c.args.cuts.now) c.requires.incidence
    c.args.node (OnTrue_at c.if-all.true c.requires.all)
