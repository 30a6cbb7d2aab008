use Rattle.ev_incidence.specs.Sets.{is_member}
use Rattle.dx_explain.proofs.Greatest.{solved}
use Rattle.dx_explain.proofs.solver.solve_by.Goals as goal

pub returns-clause-greatest : goal.returns-clause-greatest
returns-clause-greatest g c =
    let left = rw c.nodes.ensures.nodes at c.withhold.ensures in
    solved c.args.graph.now c.incidence-table.result.now c.incidence-table.ensures.incidence
    (g.C.CutTest.is_cut c.args.cuts.now) c.args.root (is_member c.args.allowed.now) c.fill.new.sets
    c.withhold.new.sets c.begin.new.sets c.requires.root c.fill.ensures.exact c.fill.ensures.all
    left c.begin.ensures.steady c.begin.ensures.over c.begin.ensures.settles
