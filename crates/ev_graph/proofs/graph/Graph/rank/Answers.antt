use Rattle.std.proofs.Common.{◌≡◌, ◌-◌, ◌<◌, suc, ap, subst, arith, length, get_or}
use Rattle.std.proofs.lemmas.List.{get_or_read}
use Rattle.ev_incidence.specs.Wiring.{Wiring, IsRank}
use Rattle.ev_graph.specs.Lawful.{GraphValue}
use Rattle.ev_incidence.proofs.Ranked.{rank_is}
use Rattle.ev_graph.proofs.Building.{wiring_same}
use Rattle.ev_graph.proofs.graph.Graph.rank.Goals as goal

pub returns-clause-rank : goal.returns-clause-rank
returns-clause-rank c =
    let i = c.self.inside in
    let x = c.args.node in
    let r = c.index-rank.result.now - 1 in
    let size : length i.nodes.items ≡ length c.args.self.now.nodes =
    ap (λ (g : GraphValue). length g.nodes) c.self.view_is in
    let x_in : x < length i.ranks.items =
    omega (arith, c.self.invariant.ranked.count, c.self.invariant.table.nodes, size, c.requires)
    in
    let read = get_or_read i.ranks.items x c.index-rank.result.now x_in c.index-rank.ensures 0 in
    let one : get_or i.ranks.items x 0 ≡ suc r =
    omega (arith, read, c.self.invariant.ranked.some x x_in) in
    let P : Wiring → Type 0 = λ w. IsRank w x r in
    rw (← c.self.view_is)
    (subst P (wiring_same (length i.nodes.items) i.instances.items i.table
    c.self.invariant.table)
    (rank_is i.table i.ranks.items c.self.invariant.table.incidence c.self.invariant.ranked x r
    x_in one))
