use Rattle.ev_graph.specs.Kinds.{is_root_node}
use Rattle.ev_incidence.proofs.Occurrences.{all_from}
use Rattle.dx_case.proofs.Fresh.{begins}
use Rattle.dx_case.proofs.finding.fresh_from.Goals as goal

pub reports_of-requires : goal.reports_of-requires
reports_of-requires c =
    rw c.as_slice.ensures.value (all_from (is_root_node c.args.graph.now.nodes)
    c.in_ok-roots.roots.items c.in_ok-roots.ensures.each)

pub candidates_of-requires : goal.candidates_of-requires
candidates_of-requires c =
    rw c.as_slice-2.ensures.value (all_from (is_root_node c.args.graph.now.nodes)
    c.in_ok-roots.roots.items c.in_ok-roots.ensures.each)

pub returns : goal.returns
returns c =
    let covered = rw c.as_slice.ensures.value at c.in_ok-reports.ensures.covered in
    let fresh = rw c.as_slice-2.ensures.value at c.in_ok-candidates.ensures in
    begins c.args.graph.now c.args.node c.in_ok-roots.roots.items c.in_ok-reports.reports.items
    c.in_ok-candidates.candidates.items c.in_ok-roots.ensures fresh
    c.in_ok-reports.ensures.ascend c.in_ok-reports.ensures.reports covered
