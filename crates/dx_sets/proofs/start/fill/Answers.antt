use Rattle.std.proofs.Common.{arith}
use Rattle.dx_sets.proofs.Filling.{filled_exact}
use Rattle.dx_sets.proofs.start.fill.Goals as goal

pub returns-clause-exact : goal.returns-clause-exact
returns-clause-exact g c =
    let h = c.loop-node.invariant in
    filled_exact c.args.table.now (g.C.CutTest.is_cut c.args.cuts.now) c.requires.incidence
    c.loop-node.sets h.sized h.full h.counts
    (λ e e_in. h.support.each e (omega (arith, e_in, c.nodes-count.ensures.count)))
