use Rattle.std.proofs.Common.{get_or, arith}
use Rattle.ev_graph.specs.Kinds.{is_root_kind, is_root_node, is_report_node}
use Rattle.ev_graph.proofs.Building.{can_search_forwards}
use Rattle.ev_graph.proofs.KindBelow.{kind_below}
use Rattle.ev_incidence.proofs.Occurrences.{all_in, in_at}
use Rattle.dx_case.proofs.Searching.{reports_cover, sorted_all}
use Rattle.dx_case.proofs.finding.reports_of.Goals as goal

pub search-requires : goal.search-requires
search-requires c =
    let v = c.incidence-table.result.now in
    let g = c.args.graph.now in
    let roots = c.args.roots.now in
    rw (c.forwards.ensures.index, c.forwards.ensures.rows) (can_search_forwards v
    roots c.in_ok-reached.reached c.in_ok-taken.taken c.forwards.ensures.incidence
    (rw c.nodes.ensures.count at c.in_ok-reached.ensures)
    (rw c.count.ensures.count at c.in_ok-taken.ensures)
    (λ i l. omega (
      arith,
      kind_below is_root_kind g.nodes (get_or roots i 0)
          (all_in (is_root_node g.nodes) roots (get_or roots i 0) c.requires (in_at roots i l)),
      c.incidence-table.ensures.incidence.nodes,
    )))

pub returns : goal.returns
returns c =
    let v = c.incidence-table.result.now in
    let g = c.args.graph.now in
    let reach = rw (c.forwards.ensures.index, c.forwards.ensures.rows) at
    c.in_ok-search.ensures.reach in
    let sorted = rw (c.nodes-2.ensures.nodes, c.as_slice.ensures.items) at
    c.in_ok-reports.ensures in
    record {
      ascend = sorted.ascend;
      reports = sorted_all (is_report_node g.nodes) c.search.new.nodes.items
          c.in_ok-reports.reports.items sorted;
      covered = reports_cover g v c.incidence-table.ensures.graph
          c.incidence-table.ensures.incidence c.args.roots.now c.search.new.nodes.items
          c.search.new.places.items c.in_ok-reports.reports.items reach sorted;
    }
