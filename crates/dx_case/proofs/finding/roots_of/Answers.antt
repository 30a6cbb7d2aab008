use Rattle.std.proofs.Common.{◌∷◌, [], ◌<◌, length, arith}
use Rattle.dx_live.proofs.Reaching.{start_below}
use Rattle.dx_case.proofs.Searching.{can_search_backwards, roots_are}
use Rattle.dx_case.proofs.finding.roots_of.Goals as goal

pub search-requires : goal.search-requires
search-requires c =
    let v = c.incidence-table.result.now in
    let inside : c.args.node < length v.uses =
    omega (arith, c.requires, c.incidence-table.ensures.incidence.nodes) in
    rw (c.backwards.ensures.index, c.backwards.ensures.rows) (can_search_backwards v
    (c.args.node ∷ []) c.in_ok-reached.reached c.in_ok-taken.taken c.backwards.ensures.incidence
    (rw c.nodes.ensures.count at c.in_ok-reached.ensures)
    (rw c.count.ensures.count at c.in_ok-taken.ensures)
    (λ i l. start_below c.args.node (length v.uses) i inside l))

pub returns : goal.returns
returns c =
    let v = c.incidence-table.result.now in
    let reach = rw (c.backwards.ensures.index, c.backwards.ensures.rows) at
    c.in_ok-search.ensures.reach in
    let sorted = rw (c.nodes-2.ensures.nodes, c.as_slice.ensures.items) at c.in_ok-roots.ensures in
    roots_are c.args.graph.now v c.incidence-table.ensures.graph
    c.incidence-table.ensures.incidence c.args.node c.search.new.nodes.items
    c.search.new.places.items c.in_ok-roots.roots.items reach sorted
